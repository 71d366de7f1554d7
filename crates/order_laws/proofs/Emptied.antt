-- If nothing is left of journals that fit a valid scenario, each operation was invoked and answered.
use Rattle.std.proofs.Common.{◌≡◌, ℕ, zero, suc, ◌+◌, ◌<◌, ◌==◌, ◌&&◌, if◌then◌else◌, is_none, Bool, true, false, Option, Some, None, List, [], ◌∷◌, drop, filter, length, map, slice_index_or, slice_set, refl, sym, ap, ◌∙◌, subst, eq-eqb, true≢false}
use Rattle.std.proofs.lemmas.Bool.{and_parts}
use Rattle.std.proofs.lemmas.List.Elements.{recursion_from_All}
use Rattle.std.specs.List.{AllByRecursion}
use Rattle.nook_data.specs.Answers.{answer_at}
use Rattle.nook_data.specs.Valid.{IsValidScenario, IsValidThread}
use Rattle.nook_data.specs.Views.Limits.{IsValidStep}
use Rattle.nook_data.specs.declared.calls.Answer.{Answer}
use Rattle.nook_data.specs.declared.calls.Op.{Op}
use Rattle.nook_data.specs.declared.scenario.Scenario.{Scenario}
use Rattle.nook_data.specs.declared.scenario.ThreadSpec.{ThreadSpec}
use Rattle.nook_data.specs.declared.steps.Event.{Event}
use Rattle.nook_data.specs.declared.steps.Event.TheVariants as event
use Rattle.part_defs.specs.Runs.{next_any}
use Rattle.run_defs.proofs.RunChanges.{settled, settled_by}
use Rattle.run_defs.specs.Simulation.{ThreadState, Waiting, opening_thread, started, threads_after}
use Rattle.run_laws.specs.Audit.{are_through, has_nothing, is_complete, is_on, is_through}
use Rattle.run_laws.specs.Fitting.{AllFit, FitsFrom}
use Rattle.audited_runs.proofs.Apart.{low_ops}
use Rattle.audited_runs.proofs.Shares.{filter_same, share_of, waiting_on}
use Rattle.audited_runs.proofs.Threaded.{same_count}
use Rattle.order_defs.specs.OneClock.{AreOneRun}
use Rattle.order_defs.specs.Taking.{IsAllTaken, IsThrough, Leads, MayTake, Taking, after_taking, opening_taking}
use Rattle.order_laws.proofs.Clocked.{ordered_one_run}
use Rattle.order_laws.proofs.Ordered.{left_is}
use Rattle.order_laws.proofs.PartAlone.{AllFitLeft, FitsLeft, all_fit_left}

-- ---- the parts of a thread's operations

abbrev AreBelow : ℕ → List (ℕ × Op) → Type 0
AreBelow n ops = AllByRecursion (λ (o : ℕ × Op). o.0 < n) ops

abbrev WaitsBelow : ℕ → Option Waiting → Type 0
WaitsBelow n None = Unit {0}
WaitsBelow n (Some w) = w.part < n

-- a thread's remaining operations, and its open call if there is one, are on parts below this number
record IsBelow (n : ℕ) (t : ThreadState) : Type 0 where
  ops : AreBelow n t.rest
  waits : WaitsBelow n t.waiting

drop_below : (n : ℕ) (ops : List (ℕ × Op)) → AreBelow n ops → AreBelow n (drop 1 ops)
drop_below n [] h = tt
drop_below n (o ∷ ops) h = h.1

started_below : (n i k : ℕ) (e : Event) (t : ThreadState) → k < n → IsBelow n t → IsBelow n (started i k e t)
started_below n i k (event.Invoke call thread o a) t low h = record { ops = by_own (thread == i); waits = by_wait (thread == i) }
  where
    by_own : (b : Bool) → AreBelow n (if b then drop 1 t.rest else t.rest)
    by_own true = drop_below n t.rest h.ops
    by_own false = h.ops

    by_wait : (b : Bool) → WaitsBelow n (if b then Some (record { part = k; call = call }) else t.waiting)
    by_wait true = low
    by_wait false = h.waits
started_below n i k (event.Enter call thread attempt a) t low h = h
started_below n i k (event.Burst context call burst count end acts a failure) t low h = h
started_below n i k (event.Stage stage answers released) t low h = h
started_below n i k (event.Arrive frame kept) t low h = h

reported_below : (n k : ℕ) (e : Event) (t : ThreadState) (w : Option Waiting) → IsBelow n t → IsBelow n (settled k e t w)
reported_below n k e t None h = h
reported_below n k e t (Some w) h = by_answer (if w.part == k then answer_at w.call e else None)
  where
    by_answer : (a : Option Answer) → IsBelow n (settled_by k t a)
    by_answer None = h
    by_answer (Some a) = record { ops = h.ops; waits = tt }

below_after : (n i k : ℕ) (e : Event) (threads : List ThreadState) → k < n → AllByRecursion (IsBelow n) threads
    → AllByRecursion (IsBelow n) (threads_after i k e threads)
below_after n i k e [] low h = tt
below_after n i k e (t ∷ threads) low h =
    let s : ThreadState = started i k e t in
    (reported_below n k e s s.waiting (started_below n i k e t low h.0), below_after n (i + 1) k e threads low h.1)

below_opening : (n : ℕ) (threads : List ThreadSpec) → AllByRecursion (IsValidThread n) threads → AllByRecursion (IsBelow n) (map opening_thread threads)
below_opening n [] h = tt
below_opening n (t ∷ threads) h = (
  record { ops = low_ops n t.ops (recursion_from_All (IsValidStep n) t.ops h.0.ops); waits = tt },
  below_opening n threads h.1,
)

-- ---- an order

-- there are this many parts, and everything that the threads have left is on one of them
record IsWithin (n : ℕ) (s : Taking) : Type 0 where
  size : length s.left ≡ n
  below : AllByRecursion (IsBelow n) s.threads

pub set_length : {X : Type 0} (xs : List X) (k : ℕ) (x : X) → length (slice_set xs k x) ≡ length xs
set_length [] k x = refl
set_length (y ∷ xs) zero x = refl
set_length (y ∷ xs) (suc k) x = ap suc (set_length xs k x)

within_after : (n : ℕ) (s : Taking) (k : ℕ) (may : MayTake s k) → IsWithin n s → IsWithin n (after_taking s k may.event may.rest)
within_after n s k may h =
    let low : k < length s.left = (left_is s.left k (may.event ∷ may.rest) may.at).1 in
    record {
      size = set_length s.left k may.rest ∙ h.size;
      below = below_after n 0 k may.event s.threads (subst (λ (m : ℕ). k < m) h.size low) h.below;
    }

within_along : (n : ℕ) (order : List ℕ) (s end : Taking) → Leads s order end → IsWithin n s → IsWithin n end
within_along n [] s end leads h = subst (IsWithin n) leads h
within_along n (k ∷ order) s end leads h =
    within_along n order (after_taking s k leads.0.event leads.0.rest) end leads.1 (within_after n s k leads.0 h)

-- ---- threads that have nothing left on any part

no_rest : (n : ℕ) (ops : List (ℕ × Op)) → AreBelow n ops → ((j : ℕ) → j < n → has_nothing (filter (is_on j) ops) ≡ true) → ops ≡ []
no_rest n [] low h = refl
no_rest n (o ∷ ops) low h =
    absurd (true≢false (sym (h o.0 low.0) ∙ ap (λ (xs : List (ℕ × Op)). has_nothing xs) (filter_same (is_on o.0) o ops (eq-eqb o.0 o.0 refl))))

no_wait : (n : ℕ) (w : Option Waiting) → WaitsBelow n w → ((j : ℕ) → j < n → is_none (waiting_on j w) ≡ true) → w ≡ None
no_wait n None low h = refl
no_wait n (Some w) low h =
    absurd (true≢false (sym (h w.part low) ∙ ap (λ (b : Bool). is_none (if b then Some w else None)) (eq-eqb w.part w.part refl)))

is_done : (n : ℕ) (t : ThreadState) → IsBelow n t → ((j : ℕ) → j < n → is_through (share_of j t) ≡ true) → IsThrough t
is_done n t h each = (
  no_rest n t.rest h.ops (λ j l. (and_parts (has_nothing (filter (is_on j) t.rest)) (is_none (waiting_on j t.waiting)) (each j l)).0),
  no_wait n t.waiting h.waits (λ j l. (and_parts (has_nothing (filter (is_on j) t.rest)) (is_none (waiting_on j t.waiting)) (each j l)).1),
)

all_done : (n : ℕ) (threads : List ThreadState) → AllByRecursion (IsBelow n) threads → ((j : ℕ) → j < n → are_through (map (share_of j) threads) ≡ true)
    → AllByRecursion IsThrough threads
all_done n [] h each = tt
all_done n (t ∷ threads) h each = (
  is_done n t h.0 (λ j l. (and_parts (is_through (share_of j t)) (are_through (map (share_of j) threads)) (each j l)).0),
  all_done n threads h.1 (λ j l. (and_parts (is_through (share_of j t)) (are_through (map (share_of j) threads)) (each j l)).1),
)

shares_done : (j : ℕ) (threads : List ThreadState) → FitsLeft j [] threads → are_through (map (share_of j) threads) ≡ true
unfolding FitsFrom is_complete
shares_done j threads h =
    (and_parts (are_through (map (share_of j) threads)) (has_nothing h.seat.coming && is_none (next_any h.seat.run.state)) h.fits).0

-- ---- all

pub all_taken : (scenario : Scenario) (journals : List (List Event)) (order : List ℕ) (end : Taking) → IsValidScenario scenario
    → AllFit scenario.threads 0 scenario.parts journals → Leads (opening_taking scenario.threads journals) order end
    → ((part : ℕ) → slice_index_or end.left part [] ≡ []) → IsAllTaken end
all_taken scenario journals order end v fits leads none =
    let n : ℕ = length journals in
    let valid : AllByRecursion (IsValidThread n) scenario.threads =
    subst (λ (m : ℕ). AllByRecursion (IsValidThread m) scenario.threads) (sym (same_count scenario.threads 0 scenario.parts journals fits))
    (recursion_from_All (IsValidThread (length scenario.parts)) scenario.threads v.threads) in
    let first : IsWithin n (opening_taking scenario.threads journals) = record { size = refl; below = below_opening n scenario.threads valid } in
    let within : IsWithin n end = within_along n order (opening_taking scenario.threads journals) end leads first in
    let left : AllFitLeft n end = all_fit_left scenario.threads scenario.parts journals order end fits leads in
    record {
      none_left = none;
      through = all_done n end.threads within.below
          (λ j l. shares_done j end.threads (subst (λ (xs : List Event). FitsLeft j xs end.threads) (none j) (left j l)));
    }

pub emptied_one_run : (scenario : Scenario) (journals : List (List Event)) (order : List ℕ) (end : Taking) → IsValidScenario scenario
    → AllFit scenario.threads 0 scenario.parts journals → Leads (opening_taking scenario.threads journals) order end
    → ((part : ℕ) → slice_index_or end.left part [] ≡ []) → AreOneRun scenario.threads journals
emptied_one_run scenario journals order end v fits leads none =
    ordered_one_run scenario.threads journals order end leads (all_taken scenario journals order end v fits leads none)
