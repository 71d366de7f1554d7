-- Each simulation that a scenario's run reaches keeps the invariant of its threads. When no actor has a step, every
-- operation has its answer.
use Rattle.std.proofs.Common.{◌≡◌, ◌⊎◌, inl, inr, ℕ, zero, suc, ◌+◌, ◌*◌, ◌<◌, ◌≤◌, ◌==◌, ◌&&◌, nat_lt, cond, is_none, if◌then◌else◌, Bool, true, Option, Some, None, List, [], ◌∷◌, ◌++◌, map, length, slice_get, slice_set, refl, sym, ap, ap₂, ◌∙◌, subst, arith, append-nil}
use Rattle.std.specs.List.{AllByRecursion}
use Rattle.std.proofs.lemmas.Bool.{eq-eqb, eqb-true, ne_eqb, lt-ltb, ltb-true, ltb-false}
use Rattle.std.proofs.lemmas.List.Elements.{recursion_from_All}
use Rattle.nook_data.specs.declared.calls.CallEntry.{CallEntry}
use Rattle.nook_data.specs.declared.steps.Event.{Event}
use Rattle.nook_data.specs.declared.steps.Event.TheVariants as event
use Rattle.nook_data.specs.declared.calls.Op.{Op}
use Rattle.nook_data.specs.declared.scenario.PartSpec.{PartSpec}
use Rattle.nook_data.specs.declared.scenario.Scenario.{Scenario}
use Rattle.nook_data.specs.declared.steps.Step.TheVariants as step
use Rattle.nook_data.specs.declared.scenario.ThreadSpec.{ThreadSpec}
use Rattle.part_defs.specs.Log.{call_of_thread, opening_log}
use Rattle.nook_data.specs.Answers.{answer_at}
use Rattle.part_defs.specs.Runs.{event_of, if_enabled, next_for, next_recovery, next_of_calls, next_any, step_of}
use Rattle.run_defs.specs.Schedules.{Order, picked}
use Rattle.run_defs.specs.Simulation.{Choice, IsScheduledRun, RunningPart, Simulation, ThreadState, Waiting, actor_of}
use Rattle.run_defs.specs.Simulation.{answer_table, answers_of_thread, arrival, begins, choices_of, going_on}
use Rattle.run_defs.specs.Simulation.{invocation, opening_part, opening_thread, runs, part_after, stepped_by, taken}
use Rattle.run_defs.specs.Simulation.{threads_after}
use Rattle.run_defs.proofs.RunChanges.{taken_by}
use Rattle.run_defs.proofs.ChoicesInOrder.{part_choices, choices_in_order}
use Rattle.part_defs.specs.State.{PartState}
use Rattle.part_defs.specs.Steps.{enabled, opening}
use Rattle.nook_data.specs.Valid.{IsValidPart, IsValidScenario, IsValidThread}
use Rattle.nook_data.specs.Views.Limits.{IsValidStep}
use Rattle.machine_defs.proofs.BurstKeeps.{split}
use Rattle.part_laws.proofs.Counts.{step_counted}
use Rattle.part_laws.proofs.Indices.{from_map, get_set, length_map}
use Rattle.part_laws.proofs.RunBound.{opening_tied}
use Rattle.part_laws.proofs.RunProgress.{none_still}
use Rattle.part_laws.proofs.RunsDetermined.{step_named}
use Rattle.part_laws.proofs.StepsFit.{fit_after, opening_fit}
use Rattle.part_laws.proofs.TiedBursts.{tied_after}
use Rattle.part_laws.proofs.ValidFits.{valid_fits}
use Rattle.part_laws.specs.Bound.{is_invoke}
use Rattle.part_laws.specs.Fit.{IsFit}
use Rattle.part_laws.specs.Tied.{IsTied}
use Rattle.run_laws.proofs.Choices.{IsOwn, IsGood, HasNoStep, arrivals_none, choices_good, threads_none, parts_none}
use Rattle.run_laws.proofs.Numbers.{number, pending_number, started_number, found_none, step_says}
use Rattle.run_laws.proofs.Threads.{AreThreadsOf, IsThreadOf, all_parts, heard_length, rest_count, rest_le, rest_less, threads_step, waiting_part, waits_in}
use Rattle.nook_data.proofs.Options.{none_is_some, same_inside}

-- the part with an index
abbrev At : List RunningPart → ℕ → RunningPart → Type 0
At parts k seat = slice_get parts k ≡ Some seat

-- how many operations a scenario has
abbrev ops_count : List ThreadSpec → ℕ
ops_count [] = 0
ops_count (t ∷ threads) = length t.ops + ops_count threads

-- the invariant of each simulation that is reached: only existing threads have open calls, and in each part the numbers
-- assigned and all operations left are together no more than the scenario's operations
record Holds (scenario : Scenario) (s : Simulation) : Type 0 where
  size : length s.parts ≡ length scenario.parts
  count : length s.threads ≡ length scenario.threads
  fit : (k : ℕ) (seat : RunningPart) → At s.parts k seat → IsFit seat.run.state
  tied : (k : ℕ) (seat : RunningPart) → At s.parts k seat → IsTied seat.run.state
  threads : AreThreadsOf s.parts 0 scenario.threads s.threads
  few : (k : ℕ) (seat : RunningPart) → At s.parts k seat → seat.run.state.log.count + rest_count s.threads ≤ ops_count scenario.threads
  outside : (k : ℕ) (seat : RunningPart) (t : ℕ) → At s.parts k seat → length s.threads ≤ t → number t seat.run.state.log.pending ≡ None

within : {X : Type 0} (xs : List X) (k : ℕ) (x : X) → slice_get xs k ≡ Some x → k < length xs
within [] k x h = none_is_some h
within (y ∷ xs) zero x h = omega arith
within (y ∷ xs) (suc k) x h = let l : k < length xs = within xs k x h in omega arith

some_at : {X : Type 0} (xs : List X) (k : ℕ) → k < length xs → (x : X) × (slice_get xs k ≡ Some x)
some_at [] k l = absurd (omega arith)
some_at (x ∷ xs) zero l = (x, refl)
some_at (x ∷ xs) (suc k) l = some_at xs k (omega arith)

set_length : {X : Type 0} (xs : List X) (k : ℕ) (x : X) → length (slice_set xs k x) ≡ length xs
set_length [] k x = refl
set_length (y ∷ xs) zero x = refl
set_length (y ∷ xs) (suc k) x = ap suc (set_length xs k x)

-- ---- one step

-- what holds of the new part and of each old part holds of each part afterwards
after_set : (P : RunningPart → Type 0) (parts : List RunningPart) (part : ℕ) (new : RunningPart) → P new → ((k : ℕ) (seat : RunningPart) → At parts k seat → P seat)
    → (k : ℕ) (seat : RunningPart) → At (slice_set parts part new) k seat → P seat
after_set P parts part new here there k seat h = by_position (get_set parts k part new seat h)
  where
    by_position : ((k ≡ part) × (seat ≡ new)) ⊎ ((k ≡ part → ⊥) × At parts k seat) → P seat
    by_position (inl e) = subst P (sym e.1) here
    by_position (inr n) = there k seat n.1

-- the numbers assigned and the operations left
zero_more : (a b : ℕ) → a ≤ b → 0 + a ≤ b
zero_more a b l = omega arith

one_less : (part : ℕ) (e : Event) (whole : List ThreadState) → IsOwn whole part (step_of e)
    → cond (is_invoke e) 1 0 + rest_count (threads_after 0 part e whole) ≤ rest_count whole
one_less part (event.Invoke call thread o a) whole own =
    let less : rest_count (threads_after 0 part (event.Invoke call thread o a) whole) + 1 ≤ rest_count whole =
    rest_less 0 part call thread o o a whole thread own.t own.more own.at (plus thread) own.next in
    omega arith
  where
    plus : (k : ℕ) → k ≡ 0 + k
    plus k = omega arith
one_less part (event.Enter call thread attempt a) whole own = zero_more _ _ (rest_le 0 part (event.Enter call thread attempt a) whole)
one_less part (event.Burst context call burst count end acts a failure) whole own =
    zero_more _ _ (rest_le 0 part (event.Burst context call burst count end acts a failure) whole)
one_less part (event.Stage stage answers released) whole own = zero_more _ _ (rest_le 0 part (event.Stage stage answers released) whole)
one_less part (event.Arrive frame kept) whole own = zero_more _ _ (rest_le 0 part (event.Arrive frame kept) whole)

-- a thread that does not exist invokes nothing
none_started : (t part : ℕ) (e : Event) (whole : List ThreadState) → IsOwn whole part (step_of e) → length whole ≤ t → started_number t e None ≡ None
none_started t part (event.Invoke call thread o a) whole own l =
    let low : thread < length whole = within whole thread own.t own.at in
    rw (ne_eqb thread t (λ e. apart thread t (length whole) low l e)) refl
  where
    apart : (a b n : ℕ) → a < n → n ≤ b → a ≡ b → ⊥
    apart a b n p q e = omega arith
none_started t part (event.Enter call thread attempt a) whole own l = refl
none_started t part (event.Burst context call burst count end acts a failure) whole own l = refl
none_started t part (event.Stage stage answers released) whole own l = refl
none_started t part (event.Arrive frame kept) whole own l = refl

step_holds : (scenario : Scenario) (s : Simulation) (order : Order) (c : Choice) (seat : RunningPart) → Holds scenario s
    → At s.parts c.part seat → enabled seat.run.state c.step ≡ true → IsOwn s.threads c.part c.step
    → Holds scenario (stepped_by s order c (Some seat))
step_holds scenario s order c seat h at may own =
    let e = event_of seat.run.state c.step in
    let named : step_of e ≡ c.step = step_named seat.run.state c.step in
    let own' : IsOwn s.threads c.part (step_of e) = subst (IsOwn s.threads c.part) (sym named) own in
    let tied = h.tied c.part seat at in
    let fit = h.fit c.part seat at in
    let new = part_after c.step seat in
    let left : ℕ = rest_count (threads_after 0 c.part e s.threads) in
    let counted : new.run.state.log.count ≡ seat.run.state.log.count + cond (is_invoke e) 1 0 = (step_counted seat.run.state c.step).calls' in
    record {
      size = set_length s.parts c.part new ∙ h.size;
      count = heard_length 0 c.part e s.threads ∙ h.count;
      fit = after_set (λ x. IsFit x.run.state) s.parts c.part new (fit_after seat.run.state c.step fit may) h.fit;
      tied = after_set (λ x. IsTied x.run.state) s.parts c.part new (tied_after seat.run.state c.step fit tied may) h.tied;
      threads = threads_step s.parts 0 scenario.threads s.threads s.threads c.part seat c.step at tied may own (λ k. ap (slice_get s.threads) (plus k)) h.threads;
      few = after_set (λ (x : RunningPart). x.run.state.log.count + rest_count (threads_after 0 c.part e s.threads) ≤ ops_count scenario.threads) s.parts c.part new
          (sum _ _ _ _ _ _ counted (one_less c.part e s.threads own') (h.few c.part seat at))
          (λ k x p. less _ _ _ _ (rest_le 0 c.part e s.threads) (h.few k x p));
      outside = λ k x t p l.
          let far : length s.threads ≤ t = subst (λ (n : ℕ). n ≤ t) (heard_length 0 c.part e s.threads) l in
          after_set (λ (y : RunningPart). number t y.run.state.log.pending ≡ None) s.parts c.part new
          (step_says seat.run.state c.step t tied may
          ∙ ap (λ w. pending_number (λ call. answer_at call e) (started_number t e w)) (h.outside c.part seat t at far)
          ∙ ap (pending_number (λ call. answer_at call e)) (none_started t c.part e s.threads own' far))
          (λ j y q. h.outside j y t q far) k x p;
    }
  where
    plus : (k : ℕ) → k ≡ 0 + k
    plus k = omega arith

    sum : (new old more left rest all : ℕ) → new ≡ old + more → more + left ≤ rest → old + rest ≤ all → new + left ≤ all
    sum new old more left rest all e l m = omega arith

    less : (old left rest all : ℕ) → left ≤ rest → old + rest ≤ all → old + left ≤ all
    less old left rest all l m = omega arith

order_holds : (scenario : Scenario) (s : Simulation) (order : Order) → Holds scenario s → Holds scenario (record s { order = order })
order_holds scenario s order h = record {
  size = h.size;
  count = h.count;
  fit = h.fit;
  tied = h.tied;
  threads = h.threads;
  few = h.few;
  outside = h.outside;
}

at_position : {X : Type 0} (P : X → Type 0) (xs : List X) (i : ℕ) (x : X) → AllByRecursion P xs → slice_get xs i ≡ Some x → P x
at_position P [] i x all h = none_is_some h
at_position P (y ∷ xs) zero x all h = subst P (same_inside h) all.0
at_position P (y ∷ xs) (suc i) x all h = at_position P xs i x all.1 h

taken_holds : (scenario : Scenario) (s : Simulation) (choices : List Choice) → AllByRecursion (IsGood s.parts s.threads) choices → Holds scenario s
    → Holds scenario (taken s choices)
unfolding taken
taken_holds scenario s choices all h = by_choice (slice_get choices (picked s.order (map actor_of choices)).index) refl
  where
    by_choice : (o : Option Choice) → slice_get choices (picked s.order (map actor_of choices)).index ≡ o
        → Holds scenario (taken_by s (picked s.order (map actor_of choices)).order o)
    by_choice None e = order_holds scenario s (picked s.order (map actor_of choices)).order h
    by_choice (Some c) e =
        let good : IsGood s.parts s.threads c = at_position (IsGood s.parts s.threads) choices (picked s.order (map actor_of choices)).index c all e in
        subst (λ q. Holds scenario (stepped_by s (picked s.order (map actor_of choices)).order c q)) (sym good.at)
        (step_holds scenario s (picked s.order (map actor_of choices)).order c good.seat h good.at good.may good.own)

runs_hold : (scenario : Scenario) (n : ℕ) (s : Simulation) → Holds scenario s → Holds scenario (runs n s)
unfolding runs
runs_hold scenario zero s h = h
runs_hold scenario (suc n) s h = by_choices (choices_of s) (choices_good s) (λ x k. runs_hold scenario n x k)
  where
    by_choices : (choices : List Choice) → AllByRecursion (IsGood s.parts s.threads) choices → ((x : Simulation) → Holds scenario x → Holds scenario (runs n x))
        → Holds scenario (elim choices [ [] ↦ s | (c ∷ choices) ↦ runs n (taken s (c ∷ choices)) ])
    by_choices [] all more = h
    by_choices (c ∷ choices) all more = more (taken s (c ∷ choices)) (taken_holds scenario s (c ∷ choices) all h)

-- ---- the beginning

rest_of_all : (threads : List ThreadSpec) → rest_count (map opening_thread threads) ≡ ops_count threads
rest_of_all [] = refl
rest_of_all (t ∷ threads) = ap (λ n. length t.ops + n) (rest_of_all threads)

opening_threads : (specs : List PartSpec) (n : ℕ) (threads : List ThreadSpec) → ((k : ℕ) (seat : RunningPart) → At (map opening_part specs) k seat → seat.run.state.log.pending ≡ [])
    → AreThreadsOf (map opening_part specs) n threads (map opening_thread threads)
opening_threads specs n [] none = tt
opening_threads specs n (t ∷ threads) none =
    (record { order = refl; waits = λ k seat h. ap (number n) (none k seat h) }, opening_threads specs (n + 1) threads none)

begins_holds : (scenario : Scenario) → IsValidScenario scenario → Holds scenario (begins scenario)
unfolding begins opening opening_log
begins_holds scenario v =
    let valid = recursion_from_All IsValidPart scenario.parts v.parts in
    let first : (k : ℕ) (seat : RunningPart) → At (map opening_part scenario.parts) k seat → (spec : PartSpec) × (slice_get scenario.parts k ≡ Some spec) × (seat ≡ opening_part spec) =
    λ k seat h. from_map opening_part scenario.parts k seat h in
    let none : (k : ℕ) (seat : RunningPart) → At (map opening_part scenario.parts) k seat → seat.run.state.log.pending ≡ [] =
    λ k seat h. ap (λ (x : RunningPart). x.run.state.log.pending) (first k seat h).2 in
    record {
      size = length_map opening_part scenario.parts;
      count = length_map opening_thread scenario.threads;
      fit = λ k seat h. let o = first k seat h in
          subst (λ (x : RunningPart). IsFit x.run.state) (sym o.2) (opening_fit o.0 (valid_fits o.0 (at_position IsValidPart scenario.parts k o.0 valid o.1)));
      tied = λ k seat h. let o = first k seat h in subst (λ (x : RunningPart). IsTied x.run.state) (sym o.2) (opening_tied o.0);
      threads = opening_threads scenario.parts 0 scenario.threads none;
      few = λ k seat h. small _ _ _ (ap (λ (x : RunningPart). x.run.state.log.count) (first k seat h).2) (rest_of_all scenario.threads);
      outside = λ k seat t h l. ap (number t) (none k seat h);
    }
  where
    small : (n a b : ℕ) → n ≡ 0 → a ≡ b → n + a ≤ b
    small n a b p q = omega arith

-- ---- the end

thread_at : (parts : List RunningPart) (n : ℕ) (specs : List ThreadSpec) (threads : List ThreadState) (k : ℕ) (t : ThreadState) → AreThreadsOf parts n specs threads
    → slice_get threads k ≡ Some t → (spec : ThreadSpec) × IsThreadOf parts (n + k) spec t
thread_at parts n [] [] k t are h = none_is_some h
thread_at parts n [] (x ∷ threads) k t are h = absurd are
thread_at parts n (spec ∷ specs) [] k t are h = absurd are
thread_at parts n (spec ∷ specs) (x ∷ threads) zero t are h =
    (spec, subst (λ (m : ℕ). IsThreadOf parts m spec t) (plus n) (subst (IsThreadOf parts n spec) (same_inside h) are.0))
  where
    plus : (n : ℕ) → n ≡ n + 0
    plus n = omega arith
thread_at parts n (spec ∷ specs) (x ∷ threads) (suc k) t are h =
    let more = thread_at parts (n + 1) specs threads k t are.1 h in
    (more.0, subst (λ (m : ℕ). IsThreadOf parts m more.0 t) (plus n k) more.1)
  where
    plus : (n k : ℕ) → n + 1 + k ≡ n + suc k
    plus n k = omega arith

-- a thread that waits in a part and has no step there
waits_still : (parts : List RunningPart) (n k m : ℕ) (seat : RunningPart) (rest : List (ℕ × Op)) (w : Option Waiting) → At parts k seat → HasNoStep parts n rest w
    → waits_in k w ≡ Some m → next_for seat.run.state n ≡ None
waits_still parts n k m seat [] None at h e = none_is_some e
waits_still parts n k m seat (x ∷ rest) None at h e = none_is_some e
waits_still parts n k m seat [] (Some w) at h e = split (w.part == k)
    (λ here. sym (ap (going_on n) at) ∙ ap (λ (j : ℕ). going_on n (slice_get parts j)) (sym (eqb-true w.part k here)) ∙ h)
    (λ other. none_is_some (rw other at e))
waits_still parts n k m seat (x ∷ rest) (Some w) at h e = split (w.part == k)
    (λ here. sym (ap (going_on n) at) ∙ ap (λ (j : ℕ). going_on n (slice_get parts j)) (sym (eqb-true w.part k here)) ∙ h)
    (λ other. none_is_some (rw other at e))

none_next : (p : PartState) (calls : List CallEntry) → ((t m : ℕ) → number t calls ≡ Some m → next_for p t ≡ None) → next_of_calls p calls ≡ None
none_next p [] each = refl
none_next p (c ∷ calls) each =
    rw (each c.thread c.call (rw (eq-eqb c.thread c.thread refl) refl))
    (none_next p calls (λ t m e. split (c.thread == t)
    (λ mine. each t c.call (rw mine refl))
    (λ other. each t m (rw other e))))

all_after : {X : Type 0} (P : X → Type 0) (xs ys : List X) → AllByRecursion P (xs ++ ys) → AllByRecursion P ys
all_after P [] ys h = h
all_after P (x ∷ xs) ys h = all_after P xs ys h.1

all_ops : (n : ℕ) (ops : List (ℕ × Op)) → AllByRecursion (IsValidStep n) ops → AllByRecursion (λ k. k < n) (map (λ o. o.0) ops)
all_ops n [] h = tt
all_ops n (o ∷ ops) h = (h.0.0, all_ops n ops h.1)

few_ops : (threads : List ThreadSpec) (parts : ℕ) → AllByRecursion (IsValidThread parts) threads → ops_count threads ≤ length threads * 256
few_ops [] parts h = omega arith
few_ops (t ∷ threads) parts h = sum _ _ _ h.0.op_count (few_ops threads parts h.1)
  where
    sum : (a b n : ℕ) → a ≤ 256 → b ≤ n * 256 → a + b ≤ suc n * 256
    sum a b n x y = omega arith

module _ (scenario : Scenario) (v : IsValidScenario scenario) (s : Simulation) (h : Holds scenario s) (ended : choices_of s ≡ []) where
  threads_end : ((k : ℕ) (t : ThreadState) → slice_get s.threads k ≡ Some t → HasNoStep s.parts (0 + k) t.rest t.waiting)
      × (part_choices (length s.threads) 0 s.parts ≡ [])
  threads_end = threads_none s.parts 0 s.threads (part_choices (length s.threads) 0 s.parts) (sym (choices_in_order s) ∙ ended)

  recovery_end : (k : ℕ) (seat : RunningPart) → At s.parts k seat → next_recovery seat.run.state ≡ None
  recovery_end = parts_none (length s.threads) 0 s.parts threads_end.1

  call_end : (k : ℕ) (seat : RunningPart) → At s.parts k seat → (t m : ℕ) → number t seat.run.state.log.pending ≡ Some m → next_for seat.run.state t ≡ None
  call_end k seat at t m e = split (nat_lt t (length s.threads))
      (λ low.
      let one = some_at s.threads t (ltb-true t (length s.threads) low) in
      let is = thread_at s.parts 0 scenario.threads s.threads t one.0 h.threads one.1 in
      let none : HasNoStep s.parts t one.0.rest one.0.waiting =
      subst (λ (n : ℕ). HasNoStep s.parts n one.0.rest one.0.waiting) (plus t) (threads_end.0 t one.0 one.1) in
      let waits : number t seat.run.state.log.pending ≡ waits_in k one.0.waiting =
      subst (λ (n : ℕ). number n seat.run.state.log.pending ≡ waits_in k one.0.waiting) (plus t) (is.1.waits k seat at) in
      waits_still s.parts t k m seat one.0.rest one.0.waiting at none (sym waits ∙ e))
      (λ high. none_is_some (sym (h.outside k seat t at (ltb-false t (length s.threads) high)) ∙ e))
    where
      plus : (n : ℕ) → 0 + n ≡ n
      plus n = omega arith

  -- no call is open in any part
  none_open : (k : ℕ) (seat : RunningPart) → At s.parts k seat → seat.run.state.log.pending ≡ []
  unfolding next_any
  none_open k seat at =
      (none_still seat.run.state (h.fit k seat at) (h.tied k seat at)
      (rw (recovery_end k seat at) (none_next seat.run.state seat.run.state.log.pending (call_end k seat at)))).calls

  -- every operation is on a part that exists
  on_part : (k : ℕ) → k < length scenario.parts → (seat : RunningPart) × At s.parts k seat
  on_part k l = some_at s.parts k (subst (λ (n : ℕ). k < n) (sym h.size) l)

  waits_nowhere : (n : ℕ) (spec : ThreadSpec) (t : ThreadState) (w : Option Waiting) → IsThreadOf s.parts n spec t → t.waiting ≡ w
      → AllByRecursion (λ k. k < length scenario.parts) (all_parts t) → w ≡ None
  waits_nowhere n spec t None is e low = refl
  waits_nowhere n spec t (Some w) is e low =
      let parts : AllByRecursion (λ k. k < length scenario.parts) (waiting_part t.waiting ++ map (λ o. o.0) t.rest) =
      all_after (λ k. k < length scenario.parts) (map (λ a. a.0) t.answers) (waiting_part t.waiting ++ map (λ o. o.0) t.rest) low in
      let here : w.part < length scenario.parts =
      (subst (λ o. AllByRecursion (λ k. k < length scenario.parts) (waiting_part o ++ map (λ o. o.0) t.rest)) e parts).0 in
      let seat = on_part w.part here in
      let nothing : None ≡ waits_in w.part t.waiting = sym (ap (number n) (none_open w.part seat.0 seat.1)) ∙ is.waits w.part seat.0 seat.1 in
      none_is_some (nothing ∙ ap (waits_in w.part) e ∙ mine (w.part == w.part) (eq-eqb w.part w.part refl))
    where
      mine : (b : Bool) → b ≡ true → (if b then Some w.call else None) ≡ Some w.call
      mine b e = rw e refl

  invokes_nothing : (n : ℕ) (spec : ThreadSpec) (t : ThreadState) (rest : List (ℕ × Op)) → IsThreadOf s.parts n spec t → t.waiting ≡ None → t.rest ≡ rest → n < 16
      → HasNoStep s.parts n rest None → ((k : ℕ) (seat : RunningPart) → At s.parts k seat → seat.run.state.log.count < 100000)
      → AllByRecursion (λ k. k < length scenario.parts) (all_parts t) → rest ≡ []
  unfolding enabled
  invokes_nothing n spec t [] is free e few none counts low = refl
  invokes_nothing n spec t ((part, o) ∷ rest) is free e few none counts low =
      let parts : AllByRecursion (λ k. k < length scenario.parts) (waiting_part t.waiting ++ map (λ o. o.0) t.rest) =
      all_after (λ k. k < length scenario.parts) (map (λ a. a.0) t.answers) (waiting_part t.waiting ++ map (λ o. o.0) t.rest) low in
      let after : AllByRecursion (λ k. k < length scenario.parts) (map (λ o. o.0) t.rest) =
      subst (λ o. AllByRecursion (λ k. k < length scenario.parts) (waiting_part o ++ map (λ o. o.0) t.rest)) free parts in
      let here : part < length scenario.parts = (subst (λ (xs : List (ℕ × Op)). AllByRecursion (λ k. k < length scenario.parts) (map (λ o. o.0) xs)) e after).0 in
      let seat = on_part part here in
      let p = seat.0.run.state in
      let nothing : number n p.log.pending ≡ None = ap (number n) (none_open part seat.0 seat.1) in
      let may : enabled p (step.Invoke n o) ≡ true =
      three (nat_lt n 16) (is_none (call_of_thread n p.log.pending)) (nat_lt p.log.count 100000) (lt-ltb n 16 few) (found_none n p.log.pending nothing) (lt-ltb p.log.count 100000 (counts part seat.0 seat.1)) in
      let never : if_enabled p (step.Invoke n o) None ≡ None = sym (ap (invocation n o) seat.1) ∙ none in
      some_none (enabled p (step.Invoke n o)) may never
    where
      three : (a b c : Bool) → a ≡ true → b ≡ true → c ≡ true → (a && b && c) ≡ true
      three a b c x y z = rw (x, y, z) refl

      some_none : {G : Type 0} (b : Bool) → b ≡ true → (if b then Some (step.Invoke n o) else None) ≡ None → G
      some_none b e h = let full : (if b then Some (step.Invoke n o) else None) ≡ Some (step.Invoke n o) = rw e refl in none_is_some (sym h ∙ full)

  counts_low : (k : ℕ) (seat : RunningPart) → At s.parts k seat → seat.run.state.log.count < 100000
  counts_low k seat at =
      sum _ _ _ _ (h.few k seat at) (few_ops scenario.threads (length scenario.parts) (recursion_from_All (IsValidThread (length scenario.parts)) scenario.threads v.threads)) v.thread_count
    where
      sum : (count rest all threads : ℕ) → count + rest ≤ all → all ≤ threads * 256 → threads ≤ 16 → count < 100000
      sum count rest all threads a b c = omega arith

  thread_end : (n : ℕ) (spec : ThreadSpec) (t : ThreadState) → IsThreadOf s.parts n spec t → n < 16 → HasNoStep s.parts n t.rest t.waiting
      → IsValidThread (length scenario.parts) spec → map (λ a. a.0) t.answers ≡ map (λ o. o.0) spec.ops
  thread_end n spec t is few none valid =
      let low : AllByRecursion (λ k. k < length scenario.parts) (all_parts t) =
      subst (AllByRecursion (λ k. k < length scenario.parts)) (sym is.order)
      (all_ops (length scenario.parts) spec.ops (recursion_from_All (IsValidStep (length scenario.parts)) spec.ops valid.ops)) in
      let free : t.waiting ≡ None = waits_nowhere n spec t t.waiting is refl low in
      let empty : t.rest ≡ [] = invokes_nothing n spec t t.rest is free refl few (subst (HasNoStep s.parts n t.rest) free none) counts_low low in
      sym (append-nil (map (λ a. a.0) t.answers))
      ∙ sym (ap (λ w. map (λ a. a.0) t.answers ++ (waiting_part w ++ map (λ o. o.0) t.rest)) free
      ∙ ap (λ (xs : List (ℕ × Op)). map (λ a. a.0) t.answers ++ map (λ o. o.0) xs) empty)
      ∙ is.order

  all_end : (n : ℕ) (specs : List ThreadSpec) (threads : List ThreadState) → AreThreadsOf s.parts n specs threads → n + length threads ≤ 16
      → ((k : ℕ) (t : ThreadState) → slice_get threads k ≡ Some t → HasNoStep s.parts (n + k) t.rest t.waiting)
      → AllByRecursion (IsValidThread (length scenario.parts)) specs
      → (map (λ answers. map (λ a. a.0) answers) (map answers_of_thread threads) ≡ map (λ t. map (λ o. o.0) t.ops) specs)
      × (map length (map answers_of_thread threads) ≡ map (λ t. length t.ops) specs)
  all_end n [] [] are few none valid = (refl, refl)
  all_end n [] (t ∷ threads) are few none valid = absurd are
  all_end n (spec ∷ specs) [] are few none valid = absurd are
  all_end n (spec ∷ specs) (t ∷ threads) are few none valid =
      let here = thread_end n spec t are.0 (omega arith) (subst (λ (m : ℕ). HasNoStep s.parts m t.rest t.waiting) (plus n) (none 0 t refl)) valid.0 in
      let more = all_end (n + 1) specs threads are.1 (omega arith)
      (λ k x e. subst (λ (m : ℕ). HasNoStep s.parts m x.rest x.waiting) (next n k) (none (suc k) x e)) valid.1 in
      let same : length t.answers ≡ length spec.ops =
      sym (length_map (λ a. a.0) t.answers) ∙ ap length here ∙ length_map (λ o. o.0) spec.ops in
      (ap₂ (λ (x : List ℕ) xs. x ∷ xs) here more.0, ap₂ (λ (x : ℕ) xs. x ∷ xs) same more.1)
    where
      plus : (n : ℕ) → n + 0 ≡ n
      plus n = omega arith

      next : (n k : ℕ) → n + suc k ≡ n + 1 + k
      next n k = omega arith

  both_end : (map (λ answers. map (λ a. a.0) answers) (answer_table s) ≡ map (λ t. map (λ o. o.0) t.ops) scenario.threads)
      × (map length (answer_table s) ≡ map (λ t. length t.ops) scenario.threads)
  both_end = all_end 0 scenario.threads s.threads h.threads (few (length s.threads) (length scenario.threads) h.count v.thread_count) threads_end.0
      (recursion_from_All (IsValidThread (length scenario.parts)) scenario.threads v.threads)
    where
      few : (a b : ℕ) → a ≡ b → b ≤ 16 → 0 + a ≤ 16
      few a b e l = omega arith

run_holds : (scenario : Scenario) (s : Simulation) → IsValidScenario scenario → IsScheduledRun scenario s → Holds scenario s
run_holds scenario s v r = subst (Holds scenario) r.reached (runs_hold scenario r.steps (begins scenario) (begins_holds scenario v))

pub parts_answered : (scenario : Scenario) (s : Simulation) → IsValidScenario scenario → IsScheduledRun scenario s
    → map (λ answers. map (λ a. a.0) answers) (answer_table s) ≡ map (λ t. map (λ o. o.0) t.ops) scenario.threads
parts_answered scenario s v r = (both_end scenario v s (run_holds scenario s v r) r.ended).0

pub all_answered : (scenario : Scenario) (s : Simulation) → IsValidScenario scenario → IsScheduledRun scenario s
    → map length (answer_table s) ≡ map (λ t. length t.ops) scenario.threads
all_answered scenario s v r = (both_end scenario v s (run_holds scenario s v r) r.ended).1

-- at the end no part has a step left except invocations and arrivals
pub parts_settled : (scenario : Scenario) (s : Simulation) → IsValidScenario scenario → IsScheduledRun scenario s
    → (k : ℕ) (seat : RunningPart) → slice_get s.parts k ≡ Some seat → next_any seat.run.state ≡ None
unfolding next_any
parts_settled scenario s v r k seat at =
    let h = run_holds scenario s v r in
    rw (recovery_end scenario v s h r.ended k seat at, none_open scenario v s h r.ended k seat at) refl

-- and no part has a frame that may arrive
pub none_arrives : (s : Simulation) → choices_of s ≡ [] → (k : ℕ) (seat : RunningPart) → slice_get s.parts k ≡ Some seat
    → arrival seat.run seat.coming ≡ None
none_arrives s ended =
    arrivals_none (length s.threads) 0 s.parts
    (threads_none s.parts 0 s.threads (part_choices (length s.threads) 0 s.parts) (sym (choices_in_order s) ∙ ended)).1
