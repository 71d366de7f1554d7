-- The one call that an operation makes on a side: its number, its answer, and that it is open until it is answered.
use Rattle.std.proofs.Common.{◌≡◌, ℕ, zero, suc, ◌+◌, ◌<◌, ◌≤◌, ◌&&◌, Bool, true, false, Option, Some, None, is_none, nat_lt, List, [], ◌∷◌, ◌++◌, length, slice_get, subst, sym, refl, ap, ◌∙◌, inl, inr, arith}
use Rattle.std.specs.Prelude.{if◌then◌else◌, ◌==◌}
use Rattle.std.specs.List.{AllByRecursion}
use Rattle.std.proofs.lemmas.Bool.{and_parts, ltb-true}
use Rattle.std.proofs.lemmas.Bool.Decides.{nat_tests}
use Rattle.nook_data.specs.declared.calls.Answer.{Answer}
use Rattle.nook_data.specs.declared.calls.CallEntry.{CallEntry}
use Rattle.nook_data.specs.declared.steps.Event.{Event}
use Rattle.nook_data.specs.declared.steps.Event.TheVariants as event
use Rattle.nook_data.specs.declared.calls.Op.{Op}
use Rattle.nook_data.specs.declared.scenario.PartSpec.{PartSpec}
use Rattle.nook_data.specs.declared.steps.Stage.{Stage}
use Rattle.nook_data.specs.declared.steps.Stage.TheVariants as stage
use Rattle.nook_data.specs.declared.steps.Step.{Step}
use Rattle.nook_data.specs.declared.steps.Step.TheVariants as step
use Rattle.part_defs.specs.Calls.{after_enter, after_invoke}
use Rattle.part_defs.proofs.PartCases.{invoked_by, stage_by}
use Rattle.nook_data.specs.Classes.{static_check}
use Rattle.part_defs.specs.Log.{call_of_thread, opening_log}
use Rattle.part_defs.specs.Views.CallLogs.{IsNumbered}
use Rattle.nook_data.specs.Answers.{one_answer}
use Rattle.part_defs.specs.Runs.{IsRun, IsRunFrom, event_of, state_after, state_from, state_of, step_of}
use Rattle.nook_data.specs.Answers.{answer_at, answer_among}
use Rattle.part_defs.specs.Stages.{collects, gives_up_part, inits, is_given_up, loads_image, replays_open, replays_set}
use Rattle.part_defs.specs.Stages.{resets, resumes, stage_done, stage_due, stage_stepped, stops}
use Rattle.part_defs.specs.State.{PartState}
use Rattle.part_defs.specs.Steps.{after_arrival, burst_stepped, enabled, opening, stepped}
use Rattle.part_laws.specs.Bound.{calls_of, is_invoke}
use Rattle.part_laws.proofs.Counts.{counted_from}
use Rattle.part_laws.proofs.Indices.{some_same}
use Rattle.part_laws.proofs.RunBound.{count_more}
use Rattle.part_laws.proofs.CallNumbers.{CameFrom, HasEntry, Quiet, small_calls}
use Rattle.app_threads.proofs.Listed.{prefix_refl}
use Rattle.app_threads.proofs.OpenCalls.{open_law}
use Rattle.part_laws.proofs.UnansweredCalls.{open_after}
use Rattle.desk_like.specs.Desks.{DeskView, HasOpen, IsOther}
use Rattle.mirror_block.specs.Sides.{Invocation, IsAsked, and_more, answers_gained, answers_given, first_answer, invocations, or_later}
use Rattle.mirror_block.proofs.Gains.{IsCalled, gained_is}

-- ---- events that invoke nothing

others_invoke : (events : List Event) → AllByRecursion IsOther events → invocations events ≡ []
others_invoke [] h = refl
others_invoke (event.Invoke c t o answer ∷ events) h = absurd h.0
others_invoke (event.Enter c t attempt answer ∷ events) h = others_invoke events h.1
others_invoke (event.Burst context c burst count end acts answer failure ∷ events) h = others_invoke events h.1
others_invoke (event.Stage s answers released ∷ events) h = others_invoke events h.1
others_invoke (event.Arrive frame kept ∷ events) h = absurd h.0

others_given : (events : List Event) → AllByRecursion IsOther events → answers_given events ≡ []
others_given [] h = refl
others_given (event.Invoke c t o answer ∷ events) h = absurd h.0
others_given (event.Enter c t attempt answer ∷ events) h = others_given events h.1
others_given (event.Burst context c burst count end acts answer failure ∷ events) h = others_given events h.1
others_given (event.Stage s answers released ∷ events) h = others_given events h.1
others_given (event.Arrive frame kept ∷ events) h = absurd h.0

-- there are as many invocations as counted calls
invocations_counted : (events : List Event) → length (invocations events) ≡ calls_of events
invocations_counted [] = refl
invocations_counted (event.Invoke c t o answer ∷ events) = let r = invocations_counted events in let m = count_more is_invoke (event.Invoke c t o answer) events in omega arith
invocations_counted (event.Enter c t attempt answer ∷ events) = let r = invocations_counted events in let m = count_more is_invoke (event.Enter c t attempt answer) events in omega arith
invocations_counted (event.Burst context c burst count end acts answer failure ∷ events) = let r = invocations_counted events in let m = count_more is_invoke (event.Burst context c burst count end acts answer failure) events in omega arith
invocations_counted (event.Stage s answers released ∷ events) = let r = invocations_counted events in let m = count_more is_invoke (event.Stage s answers released) events in omega arith
invocations_counted (event.Arrive frame kept ∷ events) = let r = invocations_counted events in let m = count_more is_invoke (event.Arrive frame kept) events in omega arith

others_counted : (events : List Event) → AllByRecursion IsOther events → calls_of events ≡ 0
others_counted events h = sym (invocations_counted events) ∙ ap (λ (l : List Invocation). length l) (others_invoke events h)

-- ---- runs in two parts

pub run_parts : (p : PartState) (xs ys : List Event) → IsRunFrom p (xs ++ ys) → IsRunFrom p xs × IsRunFrom (state_from p xs) ys
unfolding IsRunFrom state_from
run_parts p [] ys r = (tt, r)
run_parts p (e ∷ xs) ys r = let k = run_parts (state_after p (step_of e)) xs ys r.2 in ((r.0, r.1, k.0), k.1)

pub state_parts : (p : PartState) (xs ys : List Event) → state_from p (xs ++ ys) ≡ state_from (state_from p xs) ys
unfolding state_from
state_parts p [] ys = refl
state_parts p (e ∷ xs) ys = state_parts (state_after p (step_of e)) xs ys

none_at_first : (spec : PartSpec) → (opening spec).log.count ≡ 0
unfolding opening opening_log
none_at_first spec = refl

-- a part has as many calls as its journal has invocations
pub calls_counted : (spec : PartSpec) (seen : List Event) → IsRun spec seen → (state_of spec seen).log.count ≡ length (invocations seen)
calls_counted spec seen r =
    let k = (counted_from (opening spec) seen r).calls' in
    let z = none_at_first spec in
    let n = invocations_counted seen in
    omega arith

-- ---- an invocation

abbrev call_number : Event → ℕ
call_number (event.Invoke call thread op answer) = call
call_number _ = 0

number_is : (p : PartState) (c t : ℕ) (o : Op) (check a : Option Answer) → (invoked_by p t o check).event ≡ event.Invoke c t o a → c ≡ p.log.count + 1
number_is p c t o None a e = ap call_number (sym e)
number_is p c t o (Some refusal) a e = ap call_number (sym e)

-- an invocation has the next number
pub invoke_number : (p : PartState) (c t : ℕ) (o : Op) (a : Option Answer) → event_of p (step.Invoke t o) ≡ event.Invoke c t o a → c ≡ p.log.count + 1
unfolding stepped after_invoke
invoke_number p c t o a e = number_is p c t o (static_check p.spec.class p.spec.blocks o) a e

invoke_room : (p : PartState) (t : ℕ) (o : Op) → enabled p (step.Invoke t o) ≡ true → p.log.count < 100000
unfolding enabled
invoke_room p t o h = ltb-true p.log.count 100000 (and_parts (nat_lt t 16 && is_none (call_of_thread t p.log.pending)) (nat_lt p.log.count 100000) h).1

-- ---- one more event

-- a call that is open after an event was open before or has a higher number, and the event did not answer it
record Opens (p q : PartState) (e : Event) : Type 0 where
  numbered : IsNumbered 0 q.log.count q.log.pending
  counted : q.log.count ≡ p.log.count + calls_of (e ∷ [])
  entries : AllByRecursion (λ (x : CallEntry). AllByRecursion (Quiet x.call x.thread) (e ∷ []) × CameFrom p.log x.call x.thread) q.log.pending

opens : (p : PartState) (e : Event) (events : List Event) → IsNumbered 0 p.log.count p.log.pending → IsRunFrom p (e ∷ events)
    → Opens p (state_after p (step_of e)) e × IsRunFrom (state_after p (step_of e)) events
unfolding IsRunFrom state_from
opens p e events h r =
    let one : IsRunFrom p (e ∷ []) = (r.0, r.1, tt) in
    let o = open_after p (e ∷ []) h one in (
      record { numbered = o.0; counted = (counted_from p (e ∷ []) one).calls'; entries = o.1 },
      r.2,
    )

-- only this call may be open
record MayHave (call : ℕ) (p : PartState) : Type 0 where
  numbered : IsNumbered 0 p.log.count p.log.pending
  given : call ≤ p.log.count
  only : AllByRecursion (λ (x : CallEntry). x.call ≡ call) p.log.pending

entry_is : (call : ℕ) (xs : List CallEntry) (c t : ℕ) → AllByRecursion (λ (x : CallEntry). x.call ≡ call) xs → HasEntry xs c t → c ≡ call
entry_is call [] c t h k = absurd k
entry_is call (x ∷ xs) c t h (inl k) = sym k.0 ∙ h.0
entry_is call (x ∷ xs) c t h (inr k) = entry_is call xs c t h.1 k

all_both : (P Q R : CallEntry → Type 0) (xs : List CallEntry) → ((x : CallEntry) → P x → Q x → R x) → AllByRecursion P xs → AllByRecursion Q xs → AllByRecursion R xs
all_both P Q R [] f h k = tt
all_both P Q R (x ∷ xs) f h k = (f x h.0 k.0, all_both P Q R xs f h.1 k.1)

none_left : (P : CallEntry → Type 0) (xs : List CallEntry) → ((x : CallEntry) → P x → ⊥) → AllByRecursion P xs → xs ≡ []
none_left P [] f h = refl
none_left P (x ∷ xs) f h = absurd (f x h.0)

-- the same holds after an event that invokes nothing
may_have_after : (call : ℕ) (p : PartState) (e : Event) (events : List Event) → MayHave call p → IsOther e → IsRunFrom p (e ∷ events)
    → MayHave call (state_after p (step_of e)) × IsRunFrom (state_after p (step_of e)) events
may_have_after call p e events m other r =
    let q : PartState = state_after p (step_of e) in
    let k = opens p e events m.numbered r in
    let o : Opens p q e = k.0 in
    let none : calls_of (e ∷ []) ≡ 0 = others_counted (e ∷ []) (other, tt) in
    let n : q.log.count ≡ p.log.count + calls_of (e ∷ []) = o.counted in
    let given : call ≤ p.log.count = m.given in
    let few : q.log.count ≡ p.log.count = omega arith in (
      record {
        numbered = o.numbered;
        given = omega arith;
        only =
            all_both (λ (x : CallEntry). AllByRecursion (Quiet x.call x.thread) (e ∷ []) × CameFrom p.log x.call x.thread) (λ (x : CallEntry). x.call ≤ q.log.count)
            (λ (x : CallEntry). x.call ≡ call) q.log.pending
            (λ x k l. came x.call x.thread k.1 l few) o.entries (small_calls q.log.count q.log.pending o.numbered);
      },
      k.1,
    )
  where
    came : (c t : ℕ) → CameFrom p.log c t → c ≤ (state_after p (step_of e)).log.count → (state_after p (step_of e)).log.count ≡ p.log.count → c ≡ call
    came c t (inl k) l n = entry_is call p.log.pending c t m.only k
    came c t (inr k) l n = absurd (omega arith)

-- after its answer no call is open
closed_after : (call : ℕ) (a : Answer) (p : PartState) (e : Event) (events : List Event) → MayHave call p → IsOther e → IsRunFrom p (e ∷ events) → answer_at call e ≡ Some a
    → (state_after p (step_of e)).log.pending ≡ []
closed_after call a p e events m other r h =
    let q : PartState = state_after p (step_of e) in
    let o : Opens p q e = (opens p e events m.numbered r).0 in
    let n : MayHave call q = (may_have_after call p e events m other r).0 in
    none_left (λ (x : CallEntry). (x.call ≡ call) × (answer_at x.call e ≡ None)) q.log.pending
    (λ x k. absurd (let f : None ≡ Some a = sym k.1 ∙ ap (λ (c : ℕ). answer_at c e) k.0 ∙ h in cc))
    (all_both (λ (x : CallEntry). x.call ≡ call) (λ (x : CallEntry). AllByRecursion (Quiet x.call x.thread) (e ∷ []) × CameFrom p.log x.call x.thread)
    (λ (x : CallEntry). (x.call ≡ call) × (answer_at x.call e ≡ None)) q.log.pending (λ x k l. (k, l.0.0.0)) n.only o.entries)

-- ---- nothing is answered if nothing is open

zero_other : (call : ℕ) (a : Option Answer) → 1 ≤ call → answer_among call (one_answer 0 a) ≡ None
zero_other call None h = refl
zero_other call (Some a) h = grind (arith, nat_tests)

stage_silent : (call : ℕ) (s : Stage) (p : PartState) → p.log.pending ≡ [] → answer_at call (stage_done s p).event ≡ None
unfolding stops gives_up_part collects resets loads_image inits replays_set replays_open resumes
stage_silent call stage.Stop p h = by_test (is_given_up p)
  where
    by_test : (b : Bool) → answer_at call (if b then gives_up_part p else stops p).event ≡ None
    by_test true = rw h refl
    by_test false = rw h refl
stage_silent call stage.Collect p h = refl
stage_silent call stage.Reset p h = refl
stage_silent call stage.Load p h = refl
stage_silent call stage.Init p h = refl
stage_silent call (stage.ReplaySet key value) p h = refl
stage_silent call stage.ReplayOpen p h = refl
stage_silent call stage.Resume p h = refl

stage_by_silent : (call : ℕ) (p : PartState) (o : Option Stage) → p.log.pending ≡ [] → answer_at call (stage_by p o).event ≡ None
stage_by_silent call p None h = refl
stage_by_silent call p (Some s) h = stage_silent call s p h

step_silent : (call : ℕ) (p : PartState) (s : Step) → 1 ≤ call → p.log.pending ≡ [] → IsOther (event_of p s) → answer_at call (event_of p s) ≡ None
unfolding stepped after_invoke after_enter burst_stepped stage_stepped after_arrival
step_silent call p (step.Invoke t o) l h other = absurd (by_check (static_check p.spec.class p.spec.blocks o) other)
  where
    by_check : (r : Option Answer) → IsOther (invoked_by p t o r).event → ⊥
    by_check None k = k
    by_check (Some a) k = k
step_silent call p (step.Enter t) l h other = rw h (zero_other call None l)
step_silent call p (step.Burst context) l h other = rw h (by_context (context == 16) _)
  where
    by_context : (b : Bool) (a : Option Answer) → answer_among call (one_answer (if b then 0 else 0) a) ≡ None
    by_context true a = zero_other call a l
    by_context false a = zero_other call a l
step_silent call p step.Stage l h other = stage_by_silent call p (stage_due p.mode) h
step_silent call p (step.Arrive frame) l h other = absurd other

event_is : (p : PartState) (e : Event) (events : List Event) → IsRunFrom p (e ∷ events) → event_of p (step_of e) ≡ e
unfolding IsRunFrom
event_is p e events r = r.1

none_stays : (call : ℕ) (p : PartState) (e : Event) (events : List Event) → MayHave call p → p.log.pending ≡ [] → IsOther e → IsRunFrom p (e ∷ events)
    → (state_after p (step_of e)).log.pending ≡ []
none_stays call p e events m none other r =
    let q : PartState = state_after p (step_of e) in
    none_left (λ (x : CallEntry). (x.call ≡ call) × CameFrom p.log x.call x.thread) q.log.pending (λ x k. came x.call x.thread k.0 k.1)
    (all_both (λ (x : CallEntry). x.call ≡ call) (λ (x : CallEntry). AllByRecursion (Quiet x.call x.thread) (e ∷ []) × CameFrom p.log x.call x.thread)
    (λ (x : CallEntry). (x.call ≡ call) × CameFrom p.log x.call x.thread) q.log.pending (λ x k l. (k, l.1))
    (may_have_after call p e events m other r).0.only (opens p e events m.numbered r).0.entries)
  where
    came : (c t : ℕ) → c ≡ call → CameFrom p.log c t → ⊥
    came c t i (inl k) = subst (λ (xs : List CallEntry). HasEntry xs c t) none k
    came c t i (inr k) = let g = m.given in absurd (omega arith)

silent_after : (call : ℕ) (p : PartState) (events : List Event) → 1 ≤ call → MayHave call p → p.log.pending ≡ [] → AllByRecursion IsOther events → IsRunFrom p events
    → AllByRecursion (λ e. answer_at call e ≡ None) events
silent_after call p [] l m none others r = tt
silent_after call p (e ∷ events) l m none others r =
    let i = event_is p e events r in
    let k = may_have_after call p e events m others.0 r in (
      subst (λ (x : Event). answer_at call x ≡ None) i (step_silent call p (step_of e) l none (subst IsOther (sym i) others.0)),
      silent_after call (state_after p (step_of e)) events l k.0 (none_stays call p e events m none others.0 r) others.1 k.1,
    )

in_position : (P : Event → Type 0) (events : List Event) (i : ℕ) (e : Event) → AllByRecursion P events → slice_get events i ≡ Some e → P e
in_position P [] i e h at = absurd cc
in_position P (x ∷ events) zero e h at = subst P (some_same x e at) h.0
in_position P (x ∷ events) (suc i) e h at = in_position P events i e h.1 at

-- the call is answered once
once : (call : ℕ) (a : Answer) (p : PartState) (events : List Event) → 1 ≤ call → MayHave call p → AllByRecursion IsOther events → IsRunFrom p events
    → (i : ℕ) (e : Event) → slice_get events i ≡ Some e → answer_at call e ≡ Some a → first_answer call events ≡ Some a
once call a p [] l m others r i e at h = absurd cc
once call a p (x ∷ events) l m others r zero e at h =
    ap (λ (o : Option Answer). or_later o (first_answer call events)) (ap (answer_at call) (some_same x e at) ∙ h)
once call a p (x ∷ events) l m others r (suc i) e at h =
    let k = may_have_after call p x events m others.0 r in
    by_first (answer_at call x) refl (once call a (state_after p (step_of x)) events l k.0 others.1 k.1 i e at h) k.0 k.1
  where
    by_first : (o : Option Answer) → answer_at call x ≡ o → first_answer call events ≡ Some a → MayHave call (state_after p (step_of x)) → IsRunFrom (state_after p (step_of x)) events
        → first_answer call (x ∷ events) ≡ Some a
    by_first None q later n s = ap (λ (o : Option Answer). or_later o (first_answer call events)) q ∙ later
    by_first (Some b) q later n s =
        let none = closed_after call b p x events m others.0 r q in
        let silent = in_position (λ y. answer_at call y ≡ None) events i e (silent_after call (state_after p (step_of x)) events l n none others.1 s) at in
        absurd (let f : None ≡ Some a = sym silent ∙ h in cc)

none_first : (call : ℕ) (events : List Event) → AllByRecursion (λ e. answer_at call e ≡ None) events → first_answer call events ≡ None
none_first call [] h = refl
none_first call (e ∷ events) h = ap (λ (o : Option Answer). or_later o (first_answer call events)) h.0 ∙ none_first call events h.1

all_later : (P : Event → Type 0) (xs ys : List Event) → AllByRecursion P (xs ++ ys) → AllByRecursion P ys
all_later P [] ys h = h
all_later P (x ∷ xs) ys h = all_later P xs ys h.1

quiet_answers : (call thread : ℕ) (events : List Event) → AllByRecursion (Quiet call thread) events → AllByRecursion (λ e. answer_at call e ≡ None) events
quiet_answers call thread [] h = tt
quiet_answers call thread (e ∷ events) h = (h.0.0, quiet_answers call thread events h.1)

-- ---- an operation's call

module _ (spec : PartSpec) (old new : DeskView) (call : ℕ) (o : Op) (run : IsRun spec new.seen) (none : (state_of spec old.seen).log.pending ≡ []) (c : IsCalled old new call o) where
  abbrev before : PartState
  before = state_of spec old.seen

  abbrev first : Event
  first = event.Invoke call 0 o c.answer

  abbrev after_first : PartState
  after_first = state_after before (step.Invoke 0 o)

  parts : IsRun spec old.seen × IsRunFrom before (first ∷ c.tail)
  parts = run_parts (opening spec) old.seen (first ∷ c.tail) (subst (IsRun spec) (sym c.seen) run)

  none_numbered : IsNumbered 0 before.log.count before.log.pending
  none_numbered = subst (λ (xs : List CallEntry). IsNumbered 0 before.log.count xs) (sym none) (omega arith)

  number : call ≡ before.log.count + 1
  number = invoke_number before call 0 o c.answer (event_is before first c.tail parts.1)

  enabled_first : enabled before (step.Invoke 0 o) ≡ true
  unfolding IsRunFrom
  enabled_first = parts.1.0

  pub asked : IsAsked old new o
  asked = record {
    seen = (first ∷ c.tail, c.seen);
    call = call;
    invoked = ap invocations (gained_is old new (first ∷ c.tail) c.seen) ∙ ap (λ (l : List Invocation). record { call = call; thread = 0; op = o } ∷ l) (others_invoke c.tail c.others);
    room = let k = invoke_room before 0 o enabled_first in let n = calls_counted spec old.seen parts.0 in omega arith;
  }

  pub given : answers_gained old new ≡ and_more (first_answer call (first ∷ c.tail)) []
  given = ap answers_given (gained_is old new (first ∷ c.tail) c.seen) ∙ ap (and_more (first_answer call (first ∷ c.tail))) (others_given c.tail c.others)

  -- after the invocation only that call may be open
  opened : Opens before (state_after before (step.Invoke 0 o)) first × IsRunFrom (state_after before (step.Invoke 0 o)) c.tail
  opened = opens before first c.tail none_numbered parts.1

  one_more : calls_of (first ∷ []) ≡ 1
  one_more = sym (invocations_counted (first ∷ []))

  may_have : MayHave call (state_after before (step.Invoke 0 o))
  may_have =
      let q : PartState = state_after before (step.Invoke 0 o) in
      let n : q.log.count ≡ before.log.count + calls_of (first ∷ []) = opened.0.counted in
      let m = one_more in
      let f = number in
      let few : q.log.count ≡ call = omega arith in
      record {
        numbered = opened.0.numbered;
        given = omega arith;
        only =
            all_both (λ (x : CallEntry). AllByRecursion (Quiet x.call x.thread) (first ∷ []) × CameFrom before.log x.call x.thread) (λ (x : CallEntry). x.call ≤ q.log.count)
            (λ (x : CallEntry). x.call ≡ call) q.log.pending
            (λ x k l. came x.call x.thread k.1 l few) opened.0.entries (small_calls q.log.count q.log.pending opened.0.numbered);
      }
    where
      came : (n t : ℕ) → CameFrom before.log n t → n ≤ (state_after before (step.Invoke 0 o)).log.count → (state_after before (step.Invoke 0 o)).log.count ≡ call → n ≡ call
      came n t (inl k) l m = absurd (subst (λ (xs : List CallEntry). HasEntry xs n t) none k)
      came n t (inr k) l m = let f = number in omega arith

  -- an event after the invocation that answers the call gives its first answer
  pub answered_once : (a : Answer) (i : ℕ) (e : Event) → slice_get (first ∷ c.tail) i ≡ Some e → answer_at call e ≡ Some a → first_answer call (first ∷ c.tail) ≡ Some a
  answered_once a zero e at h = ap (λ (x : Option Answer). or_later x (first_answer call c.tail)) (ap (answer_at call) (some_same first e at) ∙ h)
  answered_once a (suc i) e at h = by_first (answer_at call first) refl
    where
      low : 1 ≤ call
      low = let n = number in omega arith

      closed : (b : Answer) → answer_at call first ≡ Some b → after_first.log.pending ≡ []
      closed b q =
          none_left (λ (x : CallEntry). (x.call ≡ call) × (answer_at x.call first ≡ None)) after_first.log.pending
          (λ x k. absurd (let f : None ≡ Some b = sym k.1 ∙ ap (λ (n : ℕ). answer_at n first) k.0 ∙ q in cc))
          (all_both (λ (x : CallEntry). x.call ≡ call) (λ (x : CallEntry). AllByRecursion (Quiet x.call x.thread) (first ∷ []) × CameFrom before.log x.call x.thread)
          (λ (x : CallEntry). (x.call ≡ call) × (answer_at x.call first ≡ None)) after_first.log.pending (λ x k l. (k, l.0.0.0)) may_have.only opened.0.entries)

      by_first : (x : Option Answer) → answer_at call first ≡ x → first_answer call (first ∷ c.tail) ≡ Some a
      by_first None q = ap (λ (x : Option Answer). or_later x (first_answer call c.tail)) q ∙ once call a after_first c.tail low may_have c.others opened.1 i e at h
      by_first (Some b) q =
          let silent = in_position (λ y. answer_at call y ≡ None) c.tail i e (silent_after call after_first c.tail low may_have (closed b q) c.others opened.1) at in
          absurd (let f : None ≡ Some a = sym silent ∙ h in cc)

  -- after the answer no call is open
  pub closed_following : (a : Answer) → first_answer call (first ∷ c.tail) ≡ Some a → (state_of spec new.seen).log.pending ≡ []
  closed_following a h =
      let end : PartState = state_from before (first ∷ c.tail) in
      let k = open_after before (first ∷ c.tail) none_numbered parts.1 in
      let n : end.log.count ≡ before.log.count + calls_of (first ∷ c.tail) = (counted_from before (first ∷ c.tail) parts.1).calls' in
      let m = count_more is_invoke first c.tail in
      let z = others_counted c.tail c.others in
      let f = number in
      let few : end.log.count ≡ call = omega arith in
      ap (λ (l : List Event). (state_of spec l).log.pending) (sym c.seen) ∙ ap (λ (p : PartState). p.log.pending) (state_parts (opening spec) old.seen (first ∷ c.tail))
      ∙ none_left (λ (x : CallEntry). (AllByRecursion (Quiet x.call x.thread) (first ∷ c.tail) × CameFrom before.log x.call x.thread) × (x.call ≤ end.log.count)) end.log.pending
      (λ x y. came x.call x.thread y.0.0 y.0.1 y.1 few)
      (all_both (λ (x : CallEntry). AllByRecursion (Quiet x.call x.thread) (first ∷ c.tail) × CameFrom before.log x.call x.thread) (λ (x : CallEntry). x.call ≤ end.log.count)
      (λ (x : CallEntry). (AllByRecursion (Quiet x.call x.thread) (first ∷ c.tail) × CameFrom before.log x.call x.thread) × (x.call ≤ end.log.count)) end.log.pending
      (λ x y z. (y, z)) k.1 (small_calls end.log.count end.log.pending k.0))
    where
      came : (n t : ℕ) → AllByRecursion (Quiet n t) (first ∷ c.tail) → CameFrom before.log n t → n ≤ (state_from before (first ∷ c.tail)).log.count
          → (state_from before (first ∷ c.tail)).log.count ≡ call → ⊥
      came n t quiet (inl k) l m = subst (λ (xs : List CallEntry). HasEntry xs n t) none k
      came n t quiet (inr k) l m =
          let f = number in
          let same : n ≡ call = omega arith in
          let silent = none_first n (first ∷ c.tail) (quiet_answers n t (first ∷ c.tail) quiet) in
          absurd (let f : None ≡ Some a = sym (ap (λ (j : ℕ). first_answer j (first ∷ c.tail)) (sym same) ∙ silent) ∙ h in cc)

  -- an open call was not answered
  pub open_unanswered : HasOpen (state_of spec new.seen) 0 call → first_answer call (first ∷ c.tail) ≡ None
  open_unanswered h =
      none_first call (first ∷ c.tail)
      (all_later (λ e. answer_at call e ≡ None) old.seen (first ∷ c.tail)
      (subst (AllByRecursion (λ e. answer_at call e ≡ None)) (sym c.seen) (open_law spec new.seen new.seen 0 call run (prefix_refl new.seen) h).0))
