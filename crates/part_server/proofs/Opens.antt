-- A thread's open call over a run: it was invoked, and stays open until an event answers it.
use Rattle.std.proofs.Common.{◌≡◌, ◌⊎◌, inl, inr, ℕ, zero, suc, ◌+◌, ◌<◌, ◌==◌, ◌&&◌, nat_lt, is_none, is_some, true, Option, Some, None, List, [], ◌∷◌, ◌++◌, length, drop, slice_get, refl, sym, ap, ◌∙◌, subst, arith, eqb-true}
use Rattle.std.specs.List.{list_any, AllByRecursion}
use Rattle.std.proofs.lemmas.Bool.{and_parts, or_left, or_right, eq-eqb}
use mathlib.Core.List.{IsPrefix}
use Rattle.nook_data.specs.declared.calls.Answer.{Answer}
use Rattle.nook_data.specs.declared.calls.CallEntry.{CallEntry}
use Rattle.nook_data.specs.declared.steps.Event.{Event}
use Rattle.nook_data.specs.declared.steps.Event.TheVariants as event
use Rattle.nook_data.specs.declared.calls.Op.{Op}
use Rattle.nook_data.specs.declared.scenario.PartSpec.{PartSpec}
use Rattle.nook_data.specs.declared.steps.Step.{Step}
use Rattle.nook_data.specs.declared.steps.Step.TheVariants as step
use Rattle.part_defs.specs.Log.{call_of_thread, opening_log}
use Rattle.nook_data.specs.Numbered.{at_number}
use Rattle.part_defs.specs.Runs.{IsRun, IsRunFrom, event_of, state_after, state_from, state_of, step_of}
use Rattle.nook_data.specs.Answers.{answer_at}
use Rattle.part_defs.specs.Views.CallLogs.{answered_from}
use Rattle.part_defs.specs.State.{PartState}
use Rattle.part_defs.specs.Steps.{enabled, opening}
use Rattle.nook_data.specs.Valid.{IsValidPart}
use Rattle.desk_like.specs.Desks.{HasOpen}
use Rattle.machine_defs.proofs.BurstKeeps.{split}
use Rattle.part_laws.proofs.RunBound.{run_tied, opening_tied}
use Rattle.part_laws.proofs.RunsDetermined.{step_named}
use Rattle.part_laws.proofs.StepsFit.{fit_after, opening_fit, run_fit}
use Rattle.part_laws.proofs.TiedBursts.{step_tied}
use Rattle.part_laws.proofs.ValidFits.{valid_fits}
use Rattle.part_laws.specs.Fit.{IsFit}
use Rattle.part_laws.specs.Tied.{IsTied}
use Rattle.run_laws.proofs.Numbers.{number, pending_number, started_number, number_found, none_found, step_says}
use Rattle.part_server.specs.Answers.{Numbers, is_invocation}
use Rattle.nook_data.proofs.Options.{none_is_some, same_inside}

-- ---- a thread's open call by its number

open_has : (t call : ℕ) (p : PartState) (pending : List CallEntry) → number t pending ≡ Some call
    → (c : CallEntry) × (call_of_thread t pending ≡ Some c) × (c.call ≡ call)
open_has t call p [] h = none_is_some h
open_has t call p (c ∷ pending) h = split (c.thread == t)
    (λ mine. (c, rw mine refl, same_inside (rw mine at h)))
    (λ other. let more = open_has t call p pending (rw other at h) in (more.0, rw other more.1, more.2))

pub has_number : (p : PartState) (t call : ℕ) → HasOpen p t call → number t p.log.pending ≡ Some call
has_number p t call h = number_found t p.log.pending h.entry h.open_one ∙ ap {B = Option ℕ} (λ (n : ℕ). Some n) h.number

pub number_has : (p : PartState) (t call : ℕ) → number t p.log.pending ≡ Some call → HasOpen p t call
number_has p t call h = let o = open_has t call p p.log.pending h in record { entry = o.0; open_one = o.1; number = o.2 }

-- ---- one step

tied_after : (p : PartState) (e : Event) → IsFit p → IsTied p → enabled p (step_of e) ≡ true → IsTied (state_after p (step_of e))
tied_after p e f t n = (step_tied (length p.log.pending) p (step_of e) f t (omega arith) n).tied

not_started : (p : PartState) (t call : ℕ) (e : Event) → enabled p (step_of e) ≡ true → number t p.log.pending ≡ Some call
    → started_number t e (number t p.log.pending) ≡ number t p.log.pending
unfolding enabled
not_started p t call (event.Invoke c thread o a) n h = split (thread == t)
    (λ mine.
    let free : is_none (call_of_thread thread p.log.pending) ≡ true =
    (and_parts (nat_lt thread 16) (is_none (call_of_thread thread p.log.pending))
    (and_parts (nat_lt thread 16 && is_none (call_of_thread thread p.log.pending)) (nat_lt p.log.count 100000) n).0).1 in
    none_is_some (sym (none_found thread p.log.pending free) ∙ ap (λ k. number k p.log.pending) (eqb-true thread t mine) ∙ h))
    (λ other. rw other refl)
not_started p t call (event.Enter c thread attempt a) n h = refl
not_started p t call (event.Burst context c burst count end acts a failure) n h = refl
not_started p t call (event.Stage s answers released) n h = refl
not_started p t call (event.Arrive frame kept) n h = refl

not_reported : (f : ℕ → Option Answer) (call : ℕ) → f call ≡ None → pending_number f (Some call) ≡ Some call
not_reported f call h = rw h refl

was_pending : (f : ℕ → Option Answer) (w : Option ℕ) (call : ℕ) → pending_number f w ≡ Some call → w ≡ Some call
was_pending f None call h = h
was_pending f (Some c) call h = split (is_some (f c))
    (λ e. none_is_some (rw e at h))
    (λ e. rw e at h)

says_of : (p : PartState) (e : Event) (t : ℕ) → IsTied p → enabled p (step_of e) ≡ true → event_of p (step_of e) ≡ e
    → number t (state_after p (step_of e)).log.pending ≡ pending_number (λ call. answer_at call e) (started_number t e (number t p.log.pending))
says_of p e t tied n same =
    subst (λ (x : Event). number t (state_after p (step_of e)).log.pending ≡ pending_number (λ call. answer_at call x) (started_number t x (number t p.log.pending)))
    same (step_says p (step_of e) t tied n)

-- ---- over a run

stays_from : (p : PartState) (events : List Event) (t call : ℕ) → IsFit p → IsTied p → IsRunFrom p events → number t p.log.pending ≡ Some call
    → AllByRecursion (λ e. answer_at call e ≡ None) events → number t (state_from p events).log.pending ≡ Some call
unfolding IsRunFrom state_from
stays_from p [] t call f tied r n all = n
stays_from p (e ∷ events) t call f tied r n all =
    stays_from (state_after p (step_of e)) events t call (fit_after p (step_of e) f r.0) (tied_after p e f tied r.0) r.2
    (says_of p e t tied r.0 r.1
    ∙ ap (pending_number (λ c. answer_at c e)) (not_started p t call e r.0 n ∙ n)
    ∙ not_reported (λ c. answer_at c e) call all.0)
    all.1

started_here : (t call : ℕ) (e : Event) (w : Option ℕ) → started_number t e w ≡ Some call → (w ≡ Some call) ⊎ (is_invocation call t e ≡ true)
started_here t call (event.Invoke c thread o a) w h = split (thread == t)
    (λ mine. let same : c ≡ call = same_inside (rw mine at h) in inr (rw (same, mine) (here call)))
    (λ other. inl (rw other at h))
  where
    here : (n : ℕ) → (n == n && true) ≡ true
    here n = rw (eq-eqb n n refl) refl
started_here t call (event.Enter c thread attempt a) w h = inl h
started_here t call (event.Burst context c burst count end acts a failure) w h = inl h
started_here t call (event.Stage s answers released) w h = inl h
started_here t call (event.Arrive frame kept) w h = inl h

invoked_from : (p : PartState) (events : List Event) (t call : ℕ) → IsFit p → IsTied p → IsRunFrom p events
    → number t (state_from p events).log.pending ≡ Some call → (number t p.log.pending ≡ Some call) ⊎ (list_any (is_invocation call t) events ≡ true)
unfolding IsRunFrom state_from
invoked_from p [] t call f tied r h = inl h
invoked_from p (e ∷ events) t call f tied r h =
    elim (invoked_from (state_after p (step_of e)) events t call (fit_after p (step_of e) f r.0) (tied_after p e f tied r.0) r.2 h) [
      | inl n ↦ elim (started_here t call e (number t p.log.pending) (was_pending (λ c. answer_at c e) _ call (sym (says_of p e t tied r.0 r.1) ∙ n))) [
        | inl before ↦ inl before
        | inr here ↦ inr (or_left (is_invocation call t e) (list_any (is_invocation call t) events) here)
      ]
      | inr later ↦ inr (or_right (is_invocation call t e) (list_any (is_invocation call t) events) later)
    ]

none_at_first : (spec : PartSpec) (t : ℕ) → number t (opening spec).log.pending ≡ None
unfolding opening opening_log
none_at_first spec t = refl

-- an open call was invoked
pub was_invoked : (spec : PartSpec) (journal : List Event) (t call : ℕ) → IsValidPart spec → IsRun spec journal → HasOpen (state_of spec journal) t call
    → list_any (is_invocation call t) journal ≡ true
was_invoked spec journal t call valid r h =
    elim (invoked_from (opening spec) journal t call (opening_fit spec (valid_fits spec valid)) (opening_tied spec) r (has_number (state_of spec journal) t call h)) [
      | inl n ↦ none_is_some (sym (none_at_first spec t) ∙ n)
      | inr some ↦ some
    ]

-- ---- the first answer among the events after a number

abbrev pub IsUnanswered : ℕ → List Event → Type 0
IsUnanswered call events = AllByRecursion (λ e. answer_at call e ≡ None) events

none_answers : (n call : ℕ) (events : List Event) → answered_from n call events ≡ None → IsUnanswered call events
none_answers n call [] h = tt
none_answers n call (e ∷ events) h = by_answer (answer_at call e) refl (none_answers (n + 1) call events)
  where
    by_answer : (o : Option Answer) → answer_at call e ≡ o → (answered_from (n + 1) call events ≡ None → IsUnanswered call events) → IsUnanswered call (e ∷ events)
    by_answer None i more = (i, more (rw i at h))
    by_answer (Some a) i more = none_is_some (sym (rw i at h))

-- an event answers the call, and its number is larger than this one
record AnswersPast (from call position : ℕ) (events : List Event) : Type 0 where
  past : ℕ
  is_at : position ≡ suc (from + past)
  event : Event
  there : slice_get events past ≡ Some event
  answers : is_some (answer_at call event) ≡ true

first_answers : (from call position : ℕ) (events : List Event) → answered_from (from + 1) call events ≡ Some position → AnswersPast from call position events
first_answers from call position [] h = none_is_some h
first_answers from call position (e ∷ events) h = by_answer (answer_at call e) refl (first_answers (from + 1) call position events)
  where
    next : AnswersPast (from + 1) call position events → AnswersPast from call position (e ∷ events)
    next a = record { past = suc a.past; is_at = let p : position ≡ suc (from + 1 + a.past) = a.is_at in omega arith; event = a.event; there = a.there; answers = a.answers }

    by_answer : (o : Option Answer) → answer_at call e ≡ o
        → (answered_from (from + 1 + 1) call events ≡ Some position → AnswersPast (from + 1) call position events) → AnswersPast from call position (e ∷ events)
    by_answer None i more = next (more (rw i at h))
    by_answer (Some a) i more = record {
      past = 0;
      is_at = let p : from + 1 ≡ position = same_inside (rw i at h) in omega arith;
      event = e;
      there = refl;
      answers = ap is_some i;
    }

past_drop : (from k n : ℕ) (events : List Event) (e : Event) → n ≡ from + k → slice_get (drop from events) k ≡ Some e → slice_get events n ≡ Some e
past_drop zero k n events e same h = subst (λ (m : ℕ). slice_get events m ≡ Some e) (omega arith) h
past_drop (suc from) k n [] e same h = none_is_some h
past_drop (suc from) k zero (x ∷ events) e same h = absurd (none from k same)
  where
    none : (from k : ℕ) → 0 ≡ suc from + k → ⊥
    none from k h = omega arith
past_drop (suc from) k (suc n) (x ∷ events) e same h = past_drop from k n events e (omega arith) h

-- the first event after a number that answers a call has the number that was found
pub answer_there : (from call position : ℕ) (events : List Event) → answered_from (from + 1) call (drop from events) ≡ Some position
    → (from < position) × ((e : Event) × (at_number position events ≡ Some e) × (is_some (answer_at call e) ≡ true))
answer_there from call position events h =
    let a : AnswersPast from call position (drop from events) = first_answers from call position (drop from events) h in
    let p : position ≡ suc (from + a.past) = a.is_at in (
      omega arith,
      (
        a.event,
        ap (λ (n : ℕ). at_number n events) p ∙ past_drop from a.past (from + a.past) events a.event refl a.there,
        a.answers,
      ),
    )

-- ---- a run and a longer one

run_parts : (p : PartState) (xs ys : List Event) → IsRunFrom p (xs ++ ys) → IsRunFrom (state_from p xs) ys
unfolding IsRunFrom state_from
run_parts p [] ys r = r
run_parts p (x ∷ xs) ys r = run_parts (state_after p (step_of x)) xs ys r.2

state_parts : (p : PartState) (xs ys : List Event) → state_from p (xs ++ ys) ≡ state_from (state_from p xs) ys
unfolding state_from
state_parts p [] ys = refl
state_parts p (x ∷ xs) ys = state_parts (state_after p (step_of x)) xs ys

drop_front : (xs ys : List Event) → drop (length xs) (xs ++ ys) ≡ ys
drop_front [] ys = refl
drop_front (x ∷ xs) ys = drop_front xs ys

-- a call that was open, and was not answered since, is open
pub still_open : (spec : PartSpec) (seen all : List Event) (t call : ℕ) → IsValidPart spec → IsRun spec seen → IsPrefix seen all → IsRun spec all
    → HasOpen (state_of spec seen) t call → answered_from (length seen + 1) call (drop (length seen) all) ≡ None → HasOpen (state_of spec all) t call
still_open spec seen all t call valid r pre whole waits none =
    let rest : List Event = pre.0 in
    let same : seen ++ rest ≡ all = pre.1 in
    let fit = valid_fits spec valid in
    let more : IsRunFrom (state_of spec seen) rest = run_parts (opening spec) seen rest (subst (IsRun spec) (sym same) whole) in
    let left : drop (length seen) all ≡ rest = ap (drop (length seen)) (sym same) ∙ drop_front seen rest in
    let n : number t (state_from (state_of spec seen) rest).log.pending ≡ Some call =
    stays_from (state_of spec seen) rest t call (run_fit spec seen fit r) (run_tied spec seen fit r) more (has_number (state_of spec seen) t call waits)
    (none_answers (length seen + 1) call rest (ap (answered_from (length seen + 1) call) (sym left) ∙ none)) in
    number_has (state_of spec all) t call
    (ap (λ (p : PartState). number t p.log.pending) (ap (state_of spec) (sym same) ∙ state_parts (opening spec) seen rest) ∙ n)

-- ---- after a step

says_after : (p : PartState) (s : Step) (t call : ℕ) → IsTied p → enabled p s ≡ true → started_number t (event_of p s) (number t p.log.pending) ≡ Some call
    → answer_at call (event_of p s) ≡ None → HasOpen (state_after p s) t call
says_after p s t call tied n begun none =
    number_has (state_after p s) t call
    (step_says p s t tied n ∙ ap (pending_number (λ c. answer_at c (event_of p s))) begun ∙ not_reported (λ c. answer_at c (event_of p s)) call none)

-- an open call that the step does not answer
pub open_after : (p : PartState) (s : Step) (t call : ℕ) → IsTied p → enabled p s ≡ true → HasOpen p t call → answer_at call (event_of p s) ≡ None
    → HasOpen (state_after p s) t call
open_after p s t call tied n waits none =
    let w : number t p.log.pending ≡ Some call = has_number p t call waits in
    says_after p s t call tied n
    (not_started p t call (event_of p s) (subst (λ (x : Step). enabled p x ≡ true) (sym (step_named p s)) n) w ∙ w) none

started_is : (t call : ℕ) (o : Op) (e : Event) (w : Option ℕ) → step_of e ≡ step.Invoke t o → Numbers call e → started_number t e w ≡ Some call
started_is t call o (event.Invoke c thread p a) w s n = rw (eq-eqb thread t (of_thread s)) (ap {B = Option ℕ} (λ (k : ℕ). Some k) n)
  where
    of_thread : step.Invoke thread p ≡ step.Invoke t o → thread ≡ t
    of_thread h = cc
started_is t call o (event.Enter c thread attempt a) w s n = absurd n
started_is t call o (event.Burst context c burst count end acts a failure) w s n = absurd n
started_is t call o (event.Stage stage answers released) w s n = absurd n
started_is t call o (event.Arrive frame kept) w s n = absurd n

-- a call that its invocation does not answer
pub opened_after : (p : PartState) (t call : ℕ) (o : Op) → IsTied p → enabled p (step.Invoke t o) ≡ true → Numbers call (event_of p (step.Invoke t o))
    → answer_at call (event_of p (step.Invoke t o)) ≡ None → HasOpen (state_after p (step.Invoke t o)) t call
opened_after p t call o tied n number' none =
    says_after p (step.Invoke t o) t call tied n
    (started_is t call o (event_of p (step.Invoke t o)) (number t p.log.pending) (step_named p (step.Invoke t o)) number') none
