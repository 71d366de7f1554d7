use Rattle.std.proofs.Common.{◌≡◌, ◌⊎◌, inl, inr, ℕ, zero, suc, ◌+◌, ◌*◌, ◌^◌, ◌<◌, ◌≤◌, ◌==◌, ◌&&◌, nat_lt, cond, is_none, if◌then◌else◌, Bool, true, false, Option, Some, None, List, [], ◌∷◌, ◌++◌, length, map, slice_get, slice_set, refl, sym, ap, ◌∙◌, subst, arith, lt-ltb, ltb-true, ltb-false}
use Rattle.std.specs.List.{AllByRecursion}
use Rattle.std.specs.Option.{option_or}
use Rattle.std.proofs.lemmas.Bool.{eq-eqb, eqb-true, ne_eqb}
use Rattle.std.proofs.lemmas.List.Elements.{recursion_from_All}
use Rattle.explore_defs.specs.Orders.{choice_of_actor, follows}
use Rattle.nook_data.proofs.Options.{none_is_some, same_inside}
use Rattle.nook_data.specs.Answers.{answer_at}
use Rattle.nook_data.specs.Valid.{IsValidPart, IsValidScenario, IsValidThread}
use Rattle.nook_data.specs.declared.calls.CallEntry.{CallEntry}
use Rattle.nook_data.specs.declared.calls.Op.{Op}
use Rattle.nook_data.specs.declared.scenario.PartSpec.{PartSpec}
use Rattle.nook_data.specs.declared.scenario.Scenario.{Scenario}
use Rattle.nook_data.specs.declared.scenario.ThreadSpec.{ThreadSpec}
use Rattle.nook_data.specs.declared.steps.Event.{Event}
use Rattle.nook_data.specs.declared.steps.Event.TheVariants as event
use Rattle.nook_data.specs.declared.steps.Step.{Step}
use Rattle.nook_data.specs.declared.steps.Step.TheVariants as step
use Rattle.part_defs.specs.Log.{call_of_thread, opening_log}
use Rattle.part_defs.specs.Runs.{IsRun, IsRunFrom, event_of, next_any, next_for, next_of_calls, next_recovery, state_after, state_from, state_of, step_of}
use Rattle.part_defs.specs.State.{PartState}
use Rattle.part_defs.specs.Steps.{enabled, opening}
use Rattle.part_laws.proofs.Counts.{step_counted}
use Rattle.part_laws.proofs.Indices.{from_map, get_set, length_map, split}
use Rattle.part_laws.proofs.RunBound.{run_tied}
use Rattle.part_laws.proofs.RunProgress.{none_still}
use Rattle.part_laws.proofs.RunSmall.{run_small}
use Rattle.part_laws.proofs.RunsDetermined.{run_more, state_more, step_named}
use Rattle.part_laws.proofs.StepsFit.{run_fit}
use Rattle.part_laws.proofs.ValidFits.{valid_fits}
use Rattle.part_laws.specs.Bound.{is_invoke}
use Rattle.part_laws.specs.Fit.{IsFit}
use Rattle.part_laws.specs.Tied.{IsTied}
use Rattle.run_defs.specs.Simulation.{Choice, RunningPart, Simulation, ThreadState, Waiting, begins, going_on, invocation}
use Rattle.run_defs.specs.Simulation.{choice_of, choices_of, opening_part, opening_thread, part_after, stepped_by, threads_after}
use Rattle.run_laws.proofs.Choices.{IsGood, IsOwn, choices_good}
use Rattle.run_laws.proofs.Numbers.{found_none, number, pending_number, started_number, step_says}
use Rattle.run_laws.proofs.Threads.{AreThreadsOf, IsThreadOf, heard_length, rest_count, rest_le, rest_less, threads_step, waits_in}
use Rattle.containment_laws.proofs.Lookups.{chosen_by_recovery, chosen_by_thread, found_all, thread_choice}
use Rattle.containment_laws.proofs.Outside.{followed, some_at, within}

-- What each simulation that a scenario's steps lead to keeps; and that a thread that has something to do in a part can
-- take a step there, or somebody else can.

-- a part and its journal are a run of the scenario's part with that index
pub record IsSeat (scenario : Scenario) (k : ℕ) (seat : RunningPart) : Type 0 where
  pub spec : PartSpec
  pub at : slice_get scenario.parts k ≡ Some spec
  pub run : IsRun spec seat.run.journal
  pub state : seat.run.state ≡ state_of spec seat.run.journal

pub record Holds (scenario : Scenario) (s : Simulation) : Type 0 where
  pub size : length s.parts ≡ length scenario.parts
  pub count : length s.threads ≡ length scenario.threads
  pub seats : (k : ℕ) (seat : RunningPart) → slice_get s.parts k ≡ Some seat → IsSeat scenario k seat
  pub threads : AreThreadsOf s.parts 0 scenario.threads s.threads
  pub few : (k : ℕ) (seat : RunningPart) → slice_get s.parts k ≡ Some seat
      → seat.run.state.log.count + rest_count s.threads ≤ rest_count (map opening_thread scenario.threads)
  pub outside : (k : ℕ) (seat : RunningPart) (t : ℕ) → slice_get s.parts k ≡ Some seat → length s.threads ≤ t
      → number t seat.run.state.log.pending ≡ None

at_position : {X : Type 0} (P : X → Type 0) (xs : List X) (i : ℕ) (x : X) → AllByRecursion P xs → slice_get xs i ≡ Some x → P x
at_position P [] i x all h = none_is_some h
at_position P (y ∷ xs) zero x all h = subst P (same_inside h) all.0
at_position P (y ∷ xs) (suc i) x all h = at_position P xs i x all.1 h

set_length : {X : Type 0} (xs : List X) (k : ℕ) (x : X) → length (slice_set xs k x) ≡ length xs
set_length [] k x = refl
set_length (y ∷ xs) zero x = refl
set_length (y ∷ xs) (suc k) x = ap suc (set_length xs k x)

-- some actor has a step in the part
pub record HasStepIn (a : ℕ) (s : Simulation) : Type 0 where
  pub actor : ℕ
  pub choice : Choice
  pub chosen : choice_of_actor actor s ≡ Some choice
  pub here : choice.part ≡ a

-- a thread has an open call in the part, or its next operation is there
abbrev pub is_due : ℕ → Option Waiting → List (ℕ × Op) → Bool
is_due a (Some w) rest = w.part == a
is_due a None [] = false
is_due a None (o ∷ rest) = o.0 == a

module _ (scenario : Scenario) (valid : IsValidScenario scenario) where
  valid_spec : (k : ℕ) (spec : PartSpec) → slice_get scenario.parts k ≡ Some spec → IsValidPart spec
  valid_spec k spec at = at_position IsValidPart scenario.parts k spec (recursion_from_All IsValidPart scenario.parts valid.parts) at

  seat_fit : (k : ℕ) (seat : RunningPart) → IsSeat scenario k seat → IsFit seat.run.state
  seat_fit k seat is =
      subst IsFit (sym is.state) (run_fit is.spec seat.run.journal (valid_fits is.spec (valid_spec k is.spec is.at)) is.run)

  seat_tied : (k : ℕ) (seat : RunningPart) → IsSeat scenario k seat → IsTied seat.run.state
  seat_tied k seat is =
      subst IsTied (sym is.state) (run_tied is.spec seat.run.journal (valid_fits is.spec (valid_spec k is.spec is.at)) is.run)

  -- a journal has fewer events than this
  pub seat_small : (k : ℕ) (seat : RunningPart) → IsSeat scenario k seat → length seat.run.journal < 2 ^ 23
  seat_small k seat is =
      let v : IsValidPart is.spec = valid_spec k is.spec is.at in
      run_small is.spec seat.run.journal (valid_fits is.spec v) v.limit is.run

  -- ---- one step

  seat_after : (k : ℕ) (seat : RunningPart) (taken : Step) → IsSeat scenario k seat → enabled seat.run.state taken ≡ true
      → IsSeat scenario k (part_after taken seat)
  seat_after k seat taken is may = record {
    spec = is.spec;
    at = is.at;
    run = subst (λ (p : PartState). IsRun is.spec (seat.run.journal ++ event_of p taken ∷ [])) (sym is.state)
        (run_more (opening is.spec) seat.run.journal taken is.run (ap (λ (p : PartState). enabled p taken) (sym is.state) ∙ may));
    state = ap (λ (p : PartState). state_after p taken) is.state ∙ sym (state_more (opening is.spec) seat.run.journal taken)
        ∙ ap (λ (p : PartState). state_of is.spec (seat.run.journal ++ event_of p taken ∷ [])) (sym is.state);
  }

  -- what holds of the new part and of each old part holds of each part afterwards
  after_set : (P : ℕ → RunningPart → Type 0) (parts : List RunningPart) (part : ℕ) (new : RunningPart) → P part new
      → ((k : ℕ) (seat : RunningPart) → slice_get parts k ≡ Some seat → P k seat)
      → (k : ℕ) (seat : RunningPart) → slice_get (slice_set parts part new) k ≡ Some seat → P k seat
  after_set P parts part new here there k seat h = by_position (get_set parts k part new seat h)
    where
      by_position : ((k ≡ part) × (seat ≡ new)) ⊎ ((k ≡ part → ⊥) × (slice_get parts k ≡ Some seat)) → P k seat
      by_position (inl e) = subst (λ (n : ℕ). P n seat) (sym e.0) (subst (P part) (sym e.1) here)
      by_position (inr n) = there k seat n.1

  zero_more : (a b : ℕ) → a ≤ b → 0 + a ≤ b
  zero_more a b l = omega arith

  one_less : (part : ℕ) (e : Event) (whole : List ThreadState) → IsOwn whole part (step_of e)
      → cond (is_invoke e) 1 0 + rest_count (threads_after 0 part e whole) ≤ rest_count whole
  one_less part (event.Invoke call thread o a) whole own =
      let less : rest_count (threads_after 0 part (event.Invoke call thread o a) whole) + 1 ≤ rest_count whole =
      rest_less 0 part call thread o o a whole thread own.t own.more own.at (plus thread) own.next in
      omega arith
    where
      plus : (k : ℕ) → k ≡ 0 + k
      plus k = omega arith
  one_less part (event.Enter call thread attempt a) whole own = zero_more _ _ (rest_le 0 part (event.Enter call thread attempt a) whole)
  one_less part (event.Burst context call burst count end acts a failure) whole own =
      zero_more _ _ (rest_le 0 part (event.Burst context call burst count end acts a failure) whole)
  one_less part (event.Stage stage answers released) whole own = zero_more _ _ (rest_le 0 part (event.Stage stage answers released) whole)
  one_less part (event.Arrive frame kept) whole own = zero_more _ _ (rest_le 0 part (event.Arrive frame kept) whole)

  -- a thread that does not exist invokes nothing
  none_started : (t part : ℕ) (e : Event) (whole : List ThreadState) → IsOwn whole part (step_of e) → length whole ≤ t → started_number t e None ≡ None
  none_started t part (event.Invoke call thread o a) whole own l =
      let low : thread < length whole = within whole thread own.t own.at in
      rw (ne_eqb thread t (λ e. apart thread t (length whole) low l e)) refl
    where
      apart : (a b n : ℕ) → a < n → n ≤ b → a ≡ b → ⊥
      apart a b n p q e = omega arith
  none_started t part (event.Enter call thread attempt a) whole own l = refl
  none_started t part (event.Burst context call burst count end acts a failure) whole own l = refl
  none_started t part (event.Stage stage answers released) whole own l = refl
  none_started t part (event.Arrive frame kept) whole own l = refl

  step_holds : (s : Simulation) (c : Choice) (g : IsGood s.parts s.threads c) → Holds scenario s
      → Holds scenario (stepped_by s s.order c (Some g.seat))
  step_holds s c g h =
      let seat = g.seat in
      let e = event_of seat.run.state c.step in
      let named : step_of e ≡ c.step = step_named seat.run.state c.step in
      let own : IsOwn s.threads c.part (step_of e) = subst (IsOwn s.threads c.part) (sym named) g.own in
      let is = h.seats c.part seat g.at in
      let tied = seat_tied c.part seat is in
      let new = part_after c.step seat in
      let counted : new.run.state.log.count ≡ seat.run.state.log.count + cond (is_invoke e) 1 0 = (step_counted seat.run.state c.step).calls' in
      record {
        size = set_length s.parts c.part new ∙ h.size;
        count = heard_length 0 c.part e s.threads ∙ h.count;
        seats = after_set (IsSeat scenario) s.parts c.part new (seat_after c.part seat c.step is g.may) h.seats;
        threads = threads_step s.parts 0 scenario.threads s.threads s.threads c.part seat c.step g.at tied g.may g.own (λ k. ap (slice_get s.threads) (plus k)) h.threads;
        few = after_set (λ n (x : RunningPart). x.run.state.log.count + rest_count (threads_after 0 c.part e s.threads) ≤ rest_count (map opening_thread scenario.threads)) s.parts c.part new
            (sum _ _ _ _ _ _ counted (one_less c.part e s.threads own) (h.few c.part seat g.at))
            (λ k x p. less _ _ _ _ (rest_le 0 c.part e s.threads) (h.few k x p));
        outside = λ k x t p l.
            let far : length s.threads ≤ t = subst (λ (n : ℕ). n ≤ t) (heard_length 0 c.part e s.threads) l in
            after_set (λ n (y : RunningPart). number t y.run.state.log.pending ≡ None) s.parts c.part new
            (step_says seat.run.state c.step t tied g.may
            ∙ ap (λ w. pending_number (λ call. answer_at call e) (started_number t e w)) (h.outside c.part seat t g.at far)
            ∙ ap (pending_number (λ call. answer_at call e)) (none_started t c.part e s.threads own far))
            (λ j y q. h.outside j y t q far) k x p;
      }
    where
      plus : (k : ℕ) → k ≡ 0 + k
      plus k = omega arith

      sum : (new old more left rest all : ℕ) → new ≡ old + more → more + left ≤ rest → old + rest ≤ all → new + left ≤ all
      sum new old more left rest all e l m = omega arith

      less : (old left rest all : ℕ) → left ≤ rest → old + rest ≤ all → old + left ≤ all
      less old left rest all l m = omega arith

  -- ---- the beginning

  no_events : (p : PartState) → IsRunFrom p []
  unfolding IsRunFrom
  no_events p = tt

  nothing_done : (p : PartState) → p ≡ state_from p []
  unfolding state_from
  nothing_done p = refl

  opening_threads : (n : ℕ) (parts : List RunningPart) (threads : List ThreadSpec)
      → ((k : ℕ) (seat : RunningPart) → slice_get parts k ≡ Some seat → seat.run.state.log.pending ≡ [])
      → AreThreadsOf parts n threads (map opening_thread threads)
  opening_threads n parts [] none = tt
  opening_threads n parts (t ∷ threads) none =
      (record { order = refl; waits = λ k seat h. ap (number n) (none k seat h) }, opening_threads (n + 1) parts threads none)

  pub begins_holds : Holds scenario (begins scenario)
  unfolding begins opening opening_log
  begins_holds =
      let first : (k : ℕ) (seat : RunningPart) → slice_get (map opening_part scenario.parts) k ≡ Some seat → (spec : PartSpec) × (slice_get scenario.parts k ≡ Some spec) × (seat ≡ opening_part spec) =
      λ k seat h. from_map opening_part scenario.parts k seat h in
      let none : (k : ℕ) (seat : RunningPart) → slice_get (map opening_part scenario.parts) k ≡ Some seat → seat.run.state.log.pending ≡ [] =
      λ k seat h. ap (λ (x : RunningPart). x.run.state.log.pending) (first k seat h).2 in
      record {
        size = length_map opening_part scenario.parts;
        count = length_map opening_thread scenario.threads;
        seats = λ k seat h. let o = first k seat h in subst (IsSeat scenario k) (sym o.2) (opening_seat k o.0 o.1);
        threads = opening_threads 0 (map opening_part scenario.parts) scenario.threads none;
        few = λ k seat h. small _ _ (ap (λ (x : RunningPart). x.run.state.log.count) (first k seat h).2);
        outside = λ k seat t h l. ap (number t) (none k seat h);
      }
    where
      small : (n a : ℕ) → n ≡ 0 → n + a ≤ a
      small n a p = omega arith

      opening_seat : (k : ℕ) (spec : PartSpec) → slice_get scenario.parts k ≡ Some spec → IsSeat scenario k (opening_part spec)
      opening_seat k spec at = record { spec = spec; at = at; run = no_events (opening spec); state = nothing_done (opening spec) }

  -- ---- what some steps lead to

  pub good_choice : (s : Simulation) (actor : ℕ) (c : Choice) → choice_of_actor actor s ≡ Some c → IsGood s.parts s.threads c
  good_choice s actor c h = found_all (IsGood s.parts s.threads) actor (choices_of s) c (choices_good s) h

  pub holds_after : (s : Simulation) (actor : ℕ) (c : Choice) → Holds scenario s → choice_of_actor actor s ≡ Some c → Holds scenario (follows s c)
  holds_after s actor c h chosen =
      let g = good_choice s actor c chosen in
      subst (Holds scenario) (sym (followed s c g.seat g.at)) (step_holds s c g h)

  -- ---- who can continue

  thread_at : (parts : List RunningPart) (n : ℕ) (specs : List ThreadSpec) (threads : List ThreadState) (k : ℕ) (t : ThreadState) → AreThreadsOf parts n specs threads
      → slice_get threads k ≡ Some t → (spec : ThreadSpec) × IsThreadOf parts (n + k) spec t
  thread_at parts n [] [] k t are h = none_is_some h
  thread_at parts n [] (x ∷ threads) k t are h = absurd are
  thread_at parts n (spec ∷ specs) [] k t are h = absurd are
  thread_at parts n (spec ∷ specs) (x ∷ threads) zero t are h =
      (spec, subst (λ (m : ℕ). IsThreadOf parts m spec t) (plus n) (subst (IsThreadOf parts n spec) (same_inside h) are.0))
    where
      plus : (n : ℕ) → n ≡ n + 0
      plus n = omega arith
  thread_at parts n (spec ∷ specs) (x ∷ threads) (suc k) t are h =
      let more = thread_at parts (n + 1) specs threads k t are.1 h in
      (more.0, subst (λ (m : ℕ). IsThreadOf parts m more.0 t) (plus n k) more.1)
    where
      plus : (n k : ℕ) → n + 1 + k ≡ n + suc k
      plus n k = omega arith

  -- a thread waits in the part that has its open call
  waits_there : (s : Simulation) (k n : ℕ) (seat : RunningPart) (t : ThreadState) → Holds scenario s → slice_get s.parts k ≡ Some seat
      → slice_get s.threads n ≡ Some t → number n seat.run.state.log.pending ≡ waits_in k t.waiting
  waits_there s k n seat t h at_part at_thread =
      let is = thread_at s.parts 0 scenario.threads s.threads n t h.threads at_thread in
      subst (λ (m : ℕ). number m seat.run.state.log.pending ≡ waits_in k t.waiting) (plus n) (is.1.waits k seat at_part)
    where
      plus : (n : ℕ) → 0 + n ≡ n
      plus n = omega arith

  few_ops : (threads : List ThreadSpec) (parts : ℕ) → AllByRecursion (IsValidThread parts) threads → rest_count (map opening_thread threads) ≤ length threads * 256
  few_ops [] parts h = omega arith
  few_ops (t ∷ threads) parts h = sum _ _ _ h.0.op_count (few_ops threads parts h.1)
    where
      sum : (a b n : ℕ) → a ≤ 256 → b ≤ n * 256 → a + b ≤ suc n * 256
      sum a b n x y = omega arith

  counts_low : (s : Simulation) (k : ℕ) (seat : RunningPart) → Holds scenario s → slice_get s.parts k ≡ Some seat → seat.run.state.log.count < 100000
  counts_low s k seat h at =
      sum _ _ _ _ (h.few k seat at) (few_ops scenario.threads (length scenario.parts) (recursion_from_All (IsValidThread (length scenario.parts)) scenario.threads valid.threads)) valid.thread_count
    where
      sum : (count rest all threads : ℕ) → count + rest ≤ all → all ≤ threads * 256 → threads ≤ 16 → count < 100000
      sum count rest all threads a b c = omega arith

  -- an open call whose thread has a next step
  record NextCall (p : PartState) (calls : List CallEntry) : Type 0 where
    thread : ℕ
    call : ℕ
    taken : Step
    open_call : number thread calls ≡ Some call
    next : next_for p thread ≡ Some taken

  next_call : (p : PartState) (calls : List CallEntry) (taken : Step) → next_of_calls p calls ≡ Some taken → NextCall p calls
  next_call p [] taken h = none_is_some h
  next_call p (c ∷ calls) taken h = by_first (next_for p c.thread) refl (λ k. next_call p calls taken k)
    where
      further : NextCall p calls → NextCall p (c ∷ calls)
      further n = split (c.thread == n.thread)
          (λ mine. record { thread = n.thread; call = c.call; taken = n.taken; open_call = rw mine refl; next = n.next })
          (λ other. record { thread = n.thread; call = n.call; taken = n.taken; open_call = rw other n.open_call; next = n.next })

      by_first : (o : Option Step) → next_for p c.thread ≡ o → (next_of_calls p calls ≡ Some taken → NextCall p calls) → NextCall p (c ∷ calls)
      by_first (Some mine) e more = record { thread = c.thread; call = c.call; taken = mine; open_call = rw (eq-eqb c.thread c.thread refl) refl; next = e }
      by_first None e more = further (more (sym (ap (λ o. option_or o (next_of_calls p calls)) e) ∙ h))

  -- a thread that waits in the part, with a next step there
  going_choice : (a : ℕ) (s : Simulation) (seat : RunningPart) (m : ℕ) (t : ThreadState) (call : ℕ) (taken : Step) (w : Option Waiting)
      → slice_get s.parts a ≡ Some seat → slice_get s.threads m ≡ Some t → t.waiting ≡ w → waits_in a w ≡ Some call
      → next_for seat.run.state m ≡ Some taken → HasStepIn a s
  going_choice a s seat m t call taken None at_part at_thread e waits next = none_is_some waits
  going_choice a s seat m t call taken (Some w) at_part at_thread e waits next = split (w.part == a)
      (λ mine.
      let here : w.part ≡ a = eqb-true w.part a mine in
      let there : going_on m (slice_get s.parts w.part) ≡ Some taken =
      ap (λ (k : ℕ). going_on m (slice_get s.parts k)) here ∙ ap (going_on m) at_part ∙ next in
      record {
        actor = m;
        choice = record { actor = m; part = w.part; step = taken };
        chosen = chosen_by_thread s m t at_thread ∙ ap (thread_choice m s.parts t.rest) e ∙ ap (choice_of m w.part) there;
        here = here;
      })
      (λ other. none_is_some (rw other at waits))

  open_choice : (a : ℕ) (s : Simulation) (seat : RunningPart) (n call : ℕ) → Holds scenario s → slice_get s.parts a ≡ Some seat
      → number n seat.run.state.log.pending ≡ Some call → HasStepIn a s
  unfolding next_any
  open_choice a s seat n call h at waits = by_recovery (next_recovery seat.run.state) refl
    where
      p : PartState
      p = seat.run.state

      by_call : NextCall seat.run.state seat.run.state.log.pending → HasStepIn a s
      by_call c = split (nat_lt c.thread (length s.threads))
          (λ low.
          let one = some_at s.threads c.thread (ltb-true c.thread (length s.threads) low) in
          going_choice a s seat c.thread one.0 c.call c.taken one.0.waiting at one.1 refl
          (sym (waits_there s a c.thread seat one.0 h at one.1) ∙ c.open_call) c.next)
          (λ high. none_is_some (sym (h.outside a seat c.thread at (ltb-false c.thread (length s.threads) high)) ∙ c.open_call))

      by_calls : next_recovery seat.run.state ≡ None → (o : Option Step) → next_of_calls seat.run.state seat.run.state.log.pending ≡ o → HasStepIn a s
      by_calls none (Some taken) e = by_call (next_call seat.run.state seat.run.state.log.pending taken e)
      by_calls none None e =
          let is = h.seats a seat at in
          let still : seat.run.state.log.pending ≡ [] =
          (none_still seat.run.state (seat_fit a seat is) (seat_tied a seat is) (rw (none, e) refl)).calls in
          none_is_some (sym (ap (number n) still) ∙ waits)

      by_recovery : (o : Option Step) → next_recovery seat.run.state ≡ o → HasStepIn a s
      by_recovery (Some taken) e = record {
        actor = length s.threads + 2 * a;
        choice = record { actor = length s.threads + 2 * a; part = a; step = taken };
        chosen = chosen_by_recovery s a seat at ∙ ap (choice_of (length s.threads + 2 * a) a) e;
        here = refl;
      }
      by_recovery None e = by_calls e (next_of_calls seat.run.state seat.run.state.log.pending) refl

  pub own_choice : (a : ℕ) (s : Simulation) (seat : RunningPart) (n : ℕ) (t : ThreadState) → Holds scenario s → slice_get s.parts a ≡ Some seat
      → slice_get s.threads n ≡ Some t → is_due a t.waiting t.rest ≡ true → HasStepIn a s
  unfolding enabled
  own_choice a s seat n t h at_part at_thread due = by_thread t.waiting t.rest refl refl due
    where
      waits : number n seat.run.state.log.pending ≡ waits_in a t.waiting
      waits = waits_there s a n seat t h at_part at_thread

      three : (x y z : Bool) → x ≡ true → y ≡ true → z ≡ true → (x && y && z) ≡ true
      three x y z p q r = rw (p, q, r) refl

      low : (n count : ℕ) → n < count → count ≡ length scenario.threads → length scenario.threads ≤ 16 → n < 16
      low n count l e m = omega arith

      by_thread : (w : Option Waiting) (rest : List (ℕ × Op)) → t.waiting ≡ w → t.rest ≡ rest → is_due a w rest ≡ true → HasStepIn a s
      by_thread None [] e r d = absurd cc
      by_thread None ((b, o) ∷ rest) e r d =
          let p = seat.run.state in
          let here : b ≡ a = eqb-true b a d in
          let nothing : number n p.log.pending ≡ None = waits ∙ ap (waits_in a) e in
          let may : enabled p (step.Invoke n o) ≡ true =
          three (nat_lt n 16) (is_none (call_of_thread n p.log.pending)) (nat_lt p.log.count 100000)
          (lt-ltb n 16 (low n (length s.threads) (within s.threads n t at_thread) h.count valid.thread_count)) (found_none n p.log.pending nothing)
          (lt-ltb p.log.count 100000 (counts_low s a seat h at_part)) in
          let there : invocation n o (slice_get s.parts b) ≡ Some (step.Invoke n o) =
          ap (λ (k : ℕ). invocation n o (slice_get s.parts k)) here ∙ ap (invocation n o) at_part
          ∙ ap (λ (x : Bool). if x then Some (step.Invoke n o) else None) may in
          record {
            actor = n;
            choice = record { actor = n; part = b; step = step.Invoke n o };
            chosen = chosen_by_thread s n t at_thread ∙ ap (λ w. thread_choice n s.parts t.rest w) e
                ∙ ap (λ xs. thread_choice n s.parts xs None) r ∙ ap (choice_of n b) there;
            here = here;
          }
      by_thread (Some w) rest e r d =
          open_choice a s seat n w.call h at_part (waits ∙ ap (waits_in a) e ∙ rw d refl)
