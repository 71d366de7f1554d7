-- The sums of a row are those of the present.
use Rattle.std.proofs.Common.{◌≡◌, ℕ, ◌+◌, ◌||◌, Bool, if◌then◌else◌, is_some, Option, Some, None, List, [], ◌∷◌, map, refl, ap, ap₂, ◌∙◌}
use Rattle.contract_monitor.specs.Keeping.{losses_of}
use Rattle.contract_monitor.specs.Monitors.{Monitored}
use Rattle.explore_defs.specs.Outcomes.{clause_of}
use Rattle.explore_laws.specs.Present.{broken_in, failures_in, given_up_in, lost_in, numbers_in, part_present, present}
use Rattle.explored_run.specs.Sums.{any_broken, any_given_up, failures_of, lost_by}
use Rattle.nook_data.specs.Types.{Break, MemberRow}
use Rattle.part_defs.specs.Stages.{is_given_up}
use Rattle.report_defs.specs.Campaigns.{gone_count, lost_of}
use Rattle.run_results.specs.Statuses.{status_number}
use Rattle.run_results.specs.declared.status.ReportStatus.{ReportStatus}
use Rattle.run_defs.specs.Simulation.{RunningPart, Simulation, answer_table}
use Rattle.sim_run.specs.Watched.{HaveSeen}

failures_reported : (seats : List RunningPart) → failures_of seats ≡ failures_in (map part_present seats)
failures_reported [] = refl
failures_reported (seat ∷ seats) = ap (λ (n : ℕ). seat.run.state.failures + n) (failures_reported seats)

given_up_reported : (seats : List RunningPart) → any_given_up seats ≡ given_up_in (map part_present seats)
given_up_reported [] = refl
given_up_reported (seat ∷ seats) = ap (λ (b : Bool). is_given_up seat.run.state || b) (given_up_reported seats)

lost_reported : (seats : List RunningPart) (monitors : List Monitored) → HaveSeen seats monitors
    → lost_by monitors ≡ lost_in (map part_present seats)
lost_reported [] [] s = refl
lost_reported [] (m ∷ monitors) s = absurd s
lost_reported (seat ∷ seats) [] s = absurd s
lost_reported (seat ∷ seats) (m ∷ monitors) s =
    ap₂ (λ (n k : ℕ). n + k) (ap (λ counts. lost_of (losses_of counts)) s.0.counts) (lost_reported seats monitors s.1)

some_clause : (found : Option Break) → is_some found ≡ is_some (clause_of found)
some_clause None = refl
some_clause (Some b) = refl

broken_reported : (seats : List RunningPart) (monitors : List Monitored) → HaveSeen seats monitors
    → any_broken monitors ≡ broken_in (map part_present seats)
broken_reported [] [] s = refl
broken_reported [] (m ∷ monitors) s = absurd s
broken_reported (seat ∷ seats) [] s = absurd s
broken_reported (seat ∷ seats) (m ∷ monitors) s =
    ap₂ (λ (b c : Bool). b || c) (ap is_some s.0.broken ∙ some_clause _) (broken_reported seats monitors s.1)

pub numbers_reported : (s : Simulation) (monitors : List Monitored) (end : ReportStatus) (is_broken is_given_up : Bool)
    (steps status failures gone lost : ℕ) → HaveSeen s.parts monitors → status ≡ status_number end
    → status_number end ≡ (if is_broken then 7 else if is_given_up then 1 else 0) → is_broken ≡ any_broken monitors
    → is_given_up ≡ any_given_up s.parts → failures ≡ failures_of s.parts → gone ≡ gone_count (answer_table s)
    → lost ≡ lost_by monitors
    → ◌≡◌ {A = MemberRow} (record { status = status; events = steps; failures = failures; gone = gone; lost = lost })
    (numbers_in steps (present s))
unfolding present
numbers_reported s monitors end is_broken is_given_up steps status failures gone lost seen reported_as status_is b u f g l =
    same_row (reported_as ∙ status_is
    ∙ ap₂ (λ (b c : Bool). if b then 7 else if c then 1 else 0) (b ∙ broken_reported s.parts monitors seen)
    (u ∙ given_up_reported s.parts))
    (f ∙ failures_reported s.parts) g (l ∙ lost_reported s.parts monitors seen)
  where
    same_row : {a a' b b' c c' d d' : ℕ} → a ≡ a' → b ≡ b' → c ≡ c' → d ≡ d'
        → ◌≡◌ {A = MemberRow} (record { status = a; events = steps; failures = b; gone = c; lost = d })
        (record { status = a'; events = steps; failures = b'; gone = c'; lost = d' })
    same_row p q r t = cc
