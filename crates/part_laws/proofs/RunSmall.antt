use Rattle.std.proofs.Common.{◌≡◌, ℕ, zero, suc, ◌+◌, ◌*◌, ◌^◌, ◌<◌, ◌≤◌, Bool, List, length, arith, mul-le-mul}
use Rattle.std.specs.List.{list_any}
use Rattle.std.proofs.lemmas.List.Sums.{count_by-le-length}
use Rattle.nook_data.specs.declared.steps.Event.{Event}
use Rattle.nook_data.specs.declared.scenario.PartSpec.{PartSpec}
use Rattle.part_defs.specs.Runs.{IsRun, state_of}
use Rattle.machine_defs.proofs.BurstKeeps.{split}
use Rattle.part_laws.proofs.Counts.{run_measured}
use Rattle.part_laws.proofs.RunBound.{run_bound}
use Rattle.part_laws.specs.Bound.{passing_below, threads_of, calls_of, failures_of, arrivals_of, bursts_of_journal, is_burst, is_invoke_of, IsMeasured}
use Rattle.part_laws.specs.Fit.{IsFitSpec}

-- A run of a part within the limits of parts has fewer than 2^23 events.

passing_few : (n : ℕ) (test : ℕ → Bool) → passing_below n test ≤ n
passing_few zero test = omega arith
passing_few (suc n) test =
    let more : passing_below n test ≤ n = passing_few n test in
    split (test n)
    (λ e. rw e (omega arith))
    (λ e. rw e (omega arith))

pub run_small : (spec : PartSpec) (journal : List Event) → IsFitSpec spec → spec.limit ≤ 16 → IsRun spec journal → length journal < 2 ^ 23
run_small spec journal s low r =
    let m : IsMeasured spec journal = run_measured spec journal s r in
    let f : failures_of journal ≤ spec.limit + 1 = m.few_failures in
    let t : threads_of journal ≤ 16 = passing_few 16 (λ x. list_any (is_invoke_of x) journal) in
    small (length journal) (calls_of journal) (failures_of journal) (threads_of journal) (arrivals_of journal)
    (run_bound spec journal s r) m.few_calls (omega arith) t m.few_arrivals
  where
    small : (n calls failures threads arrivals : ℕ) → n ≤ calls * 34 + (failures + 1) * (5 + (6 + threads) * 33) + arrivals
        → calls ≤ 100000 → failures ≤ 17 → threads ≤ 16 → arrivals ≤ 100000 → n < 2 ^ 23
    small n calls failures threads arrivals h c f t a =
        let one : failures + 1 ≤ 18 = omega arith in
        let other : 5 + (6 + threads) * 33 ≤ 731 = omega arith in
        let rounds : (failures + 1) * (5 + (6 + threads) * 33) ≤ 18 * 731 = mul-le-mul one other in
        omega arith

pub run_few_bursts : (spec : PartSpec) (journal : List Event) → IsFitSpec spec → spec.limit ≤ 16 → IsRun spec journal
    → (state_of spec journal).bursts < 2 ^ 23
run_few_bursts spec journal s low r =
    let m : IsMeasured spec journal = run_measured spec journal s r in
    let b : (state_of spec journal).bursts ≡ bursts_of_journal journal = m.bursts in
    let n : bursts_of_journal journal ≤ length journal = count_by-le-length is_burst journal in
    let small : length journal < 2 ^ 23 = run_small spec journal s low r in
    omega arith
