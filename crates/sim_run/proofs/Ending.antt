use Rattle.std.proofs.Common.{◌≡◌, ℕ, suc, ◌+◌, ◌<◌, ◌≤◌, ◌^◌, true, false, IfOk, map, Result, Ok, Err, List, [], ◌∷◌, ◌++◌, length, ◌⊎◌, inl, inr, Bool, refl, sym, ap, ◌∙◌, subst, arith, add-one, zero-add, suc-add, zero}
use Rattle.nook_data.specs.declared.steps.Event.{Event}
use Rattle.nook_data.specs.declared.scenario.Scenario.{Scenario}
use Rattle.nook_data.specs.declared.memory.NoMemory.{NoMemory}
use Rattle.nook_io.specs.Listening.{Listening}
use Rattle.run_defs.specs.Simulation.{events_count}
use Rattle.run_defs.specs.Simulation.{Choice, IsScheduledRun, Simulation, answer_table, begins, choices_of, journals_of}
use Rattle.run_defs.specs.Simulation.{runs, taken}
use Rattle.nook_data.specs.Valid.{IsValidScenario}
use Rattle.run_ends.specs.declared.whole_run.WholeRun.{WholeRun}
use Rattle.request_taps.specs.Bus.{result_of, after_hearing_all}
use Rattle.request_taps.specs.declared.tap.Tap.{Tap}
use Rattle.run_ends.proofs.Heard.{after_hearing_all_append}
use Rattle.sim_run.proofs.Publishing.{published_back}
use Rattle.sim_run.proofs.Reaching.{few_events, none_at_first, one_event_more, runs_back, runs_front, runs_still, runs_of_seats, seats_of_runs}
use Rattle.sim_run.specs.Advanced.{IsAdvanced}
use Rattle.sim_run.specs.Published.{HearsStep, made, moved, published}
use Rattle.run_results.specs.Journals.{AreRuns, events_in}
use Rattle.sim_run.specs.Whole.{HeardSteps, IsSimulated, IsWhole}

-- The run of a scenario, step by step, and its end.

pub moved_some : (s : Simulation) (choices : List Choice) → 0 < length choices → moved s choices ≡ taken s choices
moved_some s [] l = absurd (omega arith)
moved_some s (c ∷ choices) l = refl

-- n steps of the run were taken, n events were made, and the taps heard them
pub record HasRun (scenario : Scenario) (n : ℕ) (s : Simulation) (old new : List (Tap Listening)) : Type 0 where
  pub reached : runs n (begins scenario) ≡ s
  pub counted : events_count (journals_of s) ≡ n
  pub heard : HeardSteps scenario n old new

pub has_begun : (scenario : Scenario) (s : Simulation) (old : List (Tap Listening)) → s ≡ begins scenario → HasRun scenario 0 s old old
unfolding runs published after_hearing_all
has_begun scenario s old e = record {
  reached = sym e;
  counted = ap (λ (x : Simulation). events_count (journals_of x)) e ∙ none_at_first scenario;
  heard = refl;
}

heard_on : (scenario : Scenario) (n : ℕ) (s : Simulation) (old now new : List (Tap Listening)) → HasRun scenario n s old now
    → new ≡ after_hearing_all (made s (choices_of s)) now → HeardSteps scenario (n + 1) old new
heard_on scenario n s old now new h e =
    e ∙ ap (after_hearing_all (made s (choices_of s))) h.heard
    ∙ sym (after_hearing_all_append (published n (begins scenario)) (made s (choices_of s)) old)
    ∙ ap (λ (x : Simulation). after_hearing_all (published n (begins scenario) ++ made x (choices_of x)) old) (sym h.reached)
    ∙ ap (λ xs. after_hearing_all xs old) (sym (published_back n (begins scenario)))
    ∙ ap (λ (k : ℕ). after_hearing_all (published k (begins scenario)) old) (sym (add-one n))

pub has_run_on : (scenario : Scenario) (n : ℕ) (s t : Simulation) (some : Bool) (old now new : List (Tap Listening)) → HasRun scenario n s old now
    → IsAdvanced s some t → HearsStep s (Ok some) now new → some ≡ true → HasRun scenario (n + 1) t old new
has_run_on scenario n s t false old now new h a e true' = cc
has_run_on scenario n s t true old now new h a e true' = record {
  reached = ap (λ (k : ℕ). runs k (begins scenario)) (add-one n)
      ∙ runs_back n (begins scenario)
      ∙ ap (λ (x : Simulation). moved x (choices_of x)) h.reached
      ∙ moved_some s (choices_of s) a.0 ∙ sym a.1;
  counted = ap (λ (x : Simulation). events_count (journals_of x)) a.1 ∙ one_event_more s a.0 ∙ ap (λ k. k + 1) h.counted;
  heard = heard_on scenario n s old now new h e;
}

pub has_ended : (scenario : Scenario) (n : ℕ) (s t : Simulation) (some : Bool) (old now new : List (Tap Listening)) → HasRun scenario n s old now
    → IsAdvanced s some t → HearsStep s (Ok some) now new → some ≡ false → IsWhole scenario t old new
has_ended scenario n s t true old now new h a e false' = cc
has_ended scenario n s t false old now new h a e false' = record {
  scheduled = record {
    steps = n;
    reached = h.reached ∙ sym a.1;
    ended = ap choices_of a.1 ∙ a.0;
  };
  heard = e ∙ h.heard;
}

-- if memory ran out
pub has_stopped : (scenario : Scenario) (n : ℕ) (s : Simulation) (old now new : List (Tap Listening)) → HasRun scenario n s old now
    → (new ≡ now) ⊎ (new ≡ after_hearing_all (made s (choices_of s)) now) → (steps : ℕ) × HeardSteps scenario steps old new
has_stopped scenario n s old now new h e = elim e [
  | inl same ↦ (n, same ∙ h.heard)
  | inr more ↦ (n + 1, heard_on scenario n s old now new h more)
]

pub has_to_end : (scenario : Scenario) (n : ℕ) (s : Simulation) (old new : List (Tap Listening)) → IsValidScenario scenario → HasRun scenario n s old new
    → 2 ^ 26 ≤ n → ⊥
has_to_end scenario n s old new v h l =
    let few : events_count (journals_of (runs n (begins scenario))) < 2 ^ 26 = few_events scenario n v in
    let same : events_count (journals_of (runs n (begins scenario))) ≡ n = ap (λ (x : Simulation). events_count (journals_of x)) h.reached ∙ h.counted in
    omega arith

-- every journal of the scheduled run is a run of its part
pub runs_scheduled : (scenario : Scenario) (s : Simulation) → IsScheduledRun scenario s → AreRuns scenario.parts (journals_of s)
runs_scheduled scenario s h =
    subst (λ (x : Simulation). AreRuns scenario.parts (journals_of x)) h.reached
    (runs_of_seats scenario.parts (runs h.steps (begins scenario)).parts (seats_of_runs scenario h.steps))

pub runs_reported : {R E : Type 0} (r : Result R E) (journals : R → List (List Event)) (scenario : Scenario) (s : Simulation) → IsScheduledRun scenario s
    → IfOk r (λ x. journals x ≡ journals_of s) → IfOk r (λ x. AreRuns scenario.parts (journals x))
runs_reported (Err x) journals scenario s h e = e
runs_reported (Ok x) journals scenario s h e = subst (AreRuns scenario.parts) (sym e) (runs_scheduled scenario s h)

pub none_heard : (scenario : Scenario) (taps : List (Tap Listening)) → HeardSteps scenario 0 taps taps
unfolding published after_hearing_all
none_heard scenario taps = refl

pub simulated_reported : (r : Result WholeRun NoMemory) (scenario : Scenario) (s : Simulation) (totals : List (ℕ × Bool)) (old new : List (Tap Listening))
    → IsWhole scenario s old new → IfOk r (λ x. map events_in x.run.journals ≡ journals_of s) → IfOk r (λ x. x.run.answers ≡ answer_table s)
    → IfOk r (λ x. x.run.taps ≡ totals) → totals ≡ map result_of new
    → IfOk r (λ x. IsSimulated scenario x.run.journals x.run.answers x.run.taps old new)
simulated_reported (Err x) scenario s totals old new w j a t m = j
simulated_reported (Ok x) scenario s totals old new w j a t m = record {
  simulation = s;
  scheduled = w.scheduled;
  same_journals = j;
  same_answers = a;
  heard = w.heard;
  same_totals = t ∙ m;
}

-- There is exactly one scheduled run.

pub runs_add : (n k : ℕ) (s : Simulation) → runs (n + k) s ≡ runs k (runs n s)
unfolding runs
runs_add zero k s = ap (λ (m : ℕ). runs m s) (zero-add k)
runs_add (suc n) k s =
    ap (λ (m : ℕ). runs m s) (suc-add n k) ∙ runs_front (n + k) s ∙ runs_add n k (moved s (choices_of s)) ∙ ap (runs k) (sym (runs_front n s))

pub stays : (scenario : Scenario) (s : Simulation) (h : IsScheduledRun scenario s) (k : ℕ) → runs (h.steps + k) (begins scenario) ≡ s
stays scenario s h k =
    runs_add h.steps k (begins scenario) ∙ ap (runs k) h.reached ∙ runs_still k s h.ended

pub scheduled_once : (scenario : Scenario) (s t : Simulation) → IsScheduledRun scenario s → IsScheduledRun scenario t → s ≡ t
scheduled_once scenario s t h k =
    sym (stays scenario s h k.steps) ∙ ap (λ (m : ℕ). runs m (begins scenario)) (swap h.steps k.steps) ∙ stays scenario t k h.steps
  where
    swap : (a b : ℕ) → a + b ≡ b + a
    swap a b = omega arith

one_more_counted : (s : Simulation) (choices : List Choice) (n : ℕ) → choices_of s ≡ choices → events_count (journals_of s) ≡ n
    → (choices_of (moved s choices) ≡ []) ⊎ (events_count (journals_of (moved s choices)) ≡ n + 1)
one_more_counted s [] n e h = inl e
one_more_counted s (c ∷ choices) n e h =
    let more : 0 < length (choices_of s) = subst (λ (xs : List Choice). 0 < length xs) (sym e) (omega arith) in
    inr (ap (λ xs. events_count (journals_of (taken s xs))) (sym e) ∙ one_event_more s more ∙ ap (λ k. k + 1) h)

ended_or_counted : (n : ℕ) (s : Simulation) → events_count (journals_of s) ≡ 0 → (choices_of (runs n s) ≡ []) ⊎ (events_count (journals_of (runs n s)) ≡ n)
unfolding runs
ended_or_counted zero s z = inr z
ended_or_counted (suc n) s z = elim (ended_or_counted n s z) [
  | inl e ↦ inl (ap (λ (x : Simulation). choices_of x) (runs_back n s ∙ ap (moved (runs n s)) e) ∙ e)
  | inr h ↦ subst (λ (x : Simulation). (choices_of x ≡ []) ⊎ (events_count (journals_of x) ≡ suc n)) (sym (runs_back n s))
      (subst (λ (k : ℕ). (choices_of (moved (runs n s) (choices_of (runs n s))) ≡ []) ⊎ (events_count (journals_of (moved (runs n s) (choices_of (runs n s)))) ≡ k))
      (add-one n) (one_more_counted (runs n s) (choices_of (runs n s)) n refl h))
]

pub ends_by : (scenario : Scenario) (n : ℕ) → IsValidScenario scenario → 2 ^ 26 ≤ n → IsScheduledRun scenario (runs n (begins scenario))
ends_by scenario n v l = elim (ended_or_counted n (begins scenario) (none_at_first scenario)) [
  | inl e ↦ record { steps = n; reached = refl; ended = e }
  | inr h ↦ absurd (few h)
]
  where
    few : events_count (journals_of (runs n (begins scenario))) ≡ n → ⊥
    few h =
        let low : events_count (journals_of (runs n (begins scenario))) < 2 ^ 26 = few_events scenario n v in
        omega arith

pub scheduled_ends : (scenario : Scenario) → IsValidScenario scenario → (s : Simulation) × IsScheduledRun scenario s
scheduled_ends scenario v = (runs (2 ^ 26) (begins scenario), ends_by scenario (2 ^ 26) v (omega arith))
