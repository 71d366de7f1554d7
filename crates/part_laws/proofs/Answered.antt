-- A call that was given a number is open, or an event has answered it.
use Rattle.std.proofs.Common.{◌≡◌, ◌⊎◌, inl, inr, ℕ, ◌+◌, ◌<◌, ◌≤◌, ◌==◌, ◌&&◌, ◌||◌, nat_le, not, is_some, if◌then◌else◌, Bool, true, false, Option, Some, None, Result, Ok, Err, List, [], ◌∷◌, ◌++◌, map, filter, refl, sym, ap, ◌∙◌, subst, add-zero, arith, true≢false}
use Rattle.std.proofs.lemmas.Bool.{eqb-true, eq-eqb, ne_eqb, le-leb}
use Rattle.std.proofs.lemmas.Bool.Decides.{nat_tests}
use Rattle.nook_data.specs.declared.classes.Accept.{Accept}
use Rattle.nook_data.specs.declared.classes.Accept.TheVariants as accepts
use Rattle.nook_data.specs.declared.classes.Admit.{Admit}
use Rattle.nook_data.specs.declared.classes.Admit.TheVariants as admits
use Rattle.nook_data.specs.declared.calls.Answer.{Answer}
use Rattle.nook_data.specs.declared.calls.CallEntry.{CallEntry}
use Rattle.nook_data.specs.declared.steps.Event.{Event}
use Rattle.nook_data.specs.declared.calls.Op.{Op}
use Rattle.nook_data.specs.declared.calls.Op.TheVariants as op
use Rattle.nook_data.specs.declared.scenario.PartSpec.{PartSpec}
use Rattle.nook_data.specs.declared.steps.Stage.{Stage}
use Rattle.nook_data.specs.declared.steps.Stage.TheVariants as stage
use Rattle.nook_data.specs.declared.steps.Step.{Step}
use Rattle.nook_data.specs.declared.steps.Step.TheVariants as step
use Rattle.nook_data.specs.declared.machine.BadParam.{BadParam}
use Rattle.nook_data.specs.declared.machine.BurstEnd.{BurstEnd}
use Rattle.nook_data.specs.declared.machine.BurstEnd.TheVariants as ends
use Rattle.nook_data.specs.declared.machine.Service.{Service}
use Rattle.part_defs.specs.Calls.{Stepped, after_invoke, invoked_with, answer_in, queue_in, after_enter, after_admit}
use Rattle.nook_data.specs.Classes.{static_check, admit, accept}
use Rattle.part_defs.specs.Crossing.{Crossed, fails, is_last, is_accepted, next_stage, shadow_replied, closes_call}
use Rattle.part_defs.specs.Crossing.{call_replied, after_crossing}
use Rattle.part_defs.specs.Domain.{domain_burst}
use Rattle.part_defs.specs.Log.{is_call, call_of_thread, open_call, opening_log, with_call, with_answered_call}
use Rattle.part_defs.specs.Log.{after_entering, after_answering, after_acknowledging, held_call, is_held, shadow_answer}
use Rattle.part_defs.specs.Log.{queue_after, with_answer, stop_answers, gone_answers}
use Rattle.part_defs.proofs.PartCases.{change_entry, entered_by, entered_call, invoked_by, new_entry, reply_by}
use Rattle.part_defs.proofs.PartCases.{serve_by, stage_by, with_burst}
use Rattle.nook_data.specs.Answers.{one_answer}
use Rattle.part_defs.specs.Runs.{IsRun, IsRunFrom, state_after, state_from, state_of, step_of}
use Rattle.nook_data.specs.Answers.{answer_at, answer_among}
use Rattle.part_defs.specs.Views.CallLogs.{answered_at, answered_from}
use Rattle.part_defs.specs.Stages.{stage_due, is_given_up, stops, gives_up_part, collects, resets, loads_image, inits}
use Rattle.part_defs.specs.Stages.{replays_set, replays_open, resumes, stage_done, stage_stepped}
use Rattle.part_defs.specs.State.{PartState}
use Rattle.part_defs.specs.Steps.{stepped, opening, burst_stepped, served_number, after_arrival}
use Rattle.machine_defs.specs.BurstFaults.{faults_of_burst}
use Rattle.machine_defs.proofs.BurstKeeps.{split}
use Rattle.part_laws.proofs.Counts.{crossed_counted}
use Rattle.part_laws.proofs.RunBound.{opening_tied}
use Rattle.part_laws.proofs.StepsFit.{fit_after, opening_fit}
use Rattle.part_laws.proofs.TiedBursts.{tied_after}
use Rattle.part_laws.specs.Answered.{is_answered}
use Rattle.part_laws.specs.Fit.{IsFit, IsFitSpec}
use Rattle.part_laws.specs.Tied.{IsRising, IsTied}

-- ---- what a crossing answers

-- a crossing answers the call of its context
pub record AnswersCall (context : ℕ) (p : PartState) (x : Crossed) : Type 0 where
  pub c : CallEntry
  pub a : Answer
  pub other : (context == 16) ≡ false
  pub found : call_of_thread context p.log.pending ≡ Some c
  pub reported : x.answer ≡ Some a
  pub closed : x.state.log.pending ≡ filter (λ d. not (is_call c.call d)) p.log.pending

-- or nothing
abbrev pub Shows : ℕ → PartState → Crossed → Type 0
Shows context p x = ((x.answer ≡ None) × (x.state.log.pending ≡ p.log.pending)) ⊎ AnswersCall context p x

served_shows : (number context : ℕ) (p : PartState) (r : Result Service BadParam) → Shows context p (serve_by number context p r)
unfolding fails
served_shows number context p (Err bad) = inl (refl, refl)
served_shows number context p (Ok s) = inl (refl, refl)

reply_shows : (status context : ℕ) (p : PartState) (o : Option CallEntry) → (context == 16) ≡ false → call_of_thread context p.log.pending ≡ o
    → Shows context p (call_replied status p o)
unfolding fails closes_call after_answering after_acknowledging
reply_shows status context p None e h = inl (refl, refl)
reply_shows status context p (Some c) e h = by_accept (accept c.op status)
  where
    by_accept : (a : Accept) → Shows context p (reply_by c status p a)
    by_accept accepts.Take = inr (record { c = c; a = _; other = e; found = h; reported = refl; closed = refl })
    by_accept (accepts.IoError block) = inr (record { c = c; a = _; other = e; found = h; reported = refl; closed = refl })
    by_accept (accepts.Fail cause) = inl (refl, refl)

pub crossed_shows : (context : ℕ) (e : BurstEnd) (p : PartState) → Shows context p (after_crossing context e p)
unfolding after_crossing fails next_stage
crossed_shows context (ends.Trap cause) p = inl (refl, refl)
crossed_shows context (ends.Kcall k) p = split (is_last context p)
    (λ e. rw e (inl (refl, refl)))
    (λ e. rw e (served_shows k context p _))
crossed_shows context ends.Pause p = split (is_last context p)
    (λ e. rw e (inl (refl, refl)))
    (λ e. rw e (inl (refl, refl)))
crossed_shows context (ends.Reply status) p = by_own (context == 16) refl
  where
    own_shows : (b : Bool) → is_accepted status p ≡ b → Shows context p (shadow_replied status p)
    own_shows true e = rw e (inl (refl, refl))
    own_shows false e = rw e (inl (refl, refl))

    by_own : (b : Bool) → (context == 16) ≡ b
        → Shows context p (if b then shadow_replied status p else call_replied status p (call_of_thread context p.log.pending))
    by_own true e = own_shows (is_accepted status p) refl
    by_own false e = reply_shows status context p (call_of_thread context p.log.pending) e refl

-- ---- what Stop answers

-- the shadow keeps or answers an operation
pub shadow_says : (o : Op) (thread : ℕ) (config : List ℕ) (holder : Option ℕ) (queue : List (List ℕ))
    → ((is_held o ≡ true) × (shadow_answer o thread config holder stage.Stop queue ≡ None))
    ⊎ ((is_held o ≡ false) × ((a : Answer) × (shadow_answer o thread config holder stage.Stop queue ≡ Some a)))
unfolding shadow_answer
shadow_says (op.Read first count) thread config holder queue = inl (refl, refl)
shadow_says (op.Write first words) thread config holder queue = inl (refl, refl)
shadow_says (op.Send frame) thread config holder queue = inr (refl, (_, refl))
shadow_says op.Recv thread config holder queue = inr (refl, (_, refl))
shadow_says op.Open thread config holder queue = inr (refl, (_, refl))
shadow_says (op.Play samples) thread config holder queue = inr (refl, (_, refl))
shadow_says op.Close thread config holder queue = inl (refl, refl)
shadow_says (op.Get key) thread config holder queue = inr (refl, (_, refl))
shadow_says (op.Set key value) thread config holder queue = inl (refl, refl)

-- no answer to a number below those of the calls
pub none_below : (n low count : ℕ) (calls : List CallEntry) (config : List ℕ) (holder : Option ℕ) (queue : List (List ℕ)) → IsRising low count calls → n ≤ low
    → answer_among n (stop_answers calls config holder queue) ≡ None
none_below n low count [] config holder queue r l = refl
none_below n low count (c ∷ calls) config holder queue r l =
    with_none (shadow_answer c.op c.thread config holder stage.Stop queue) (none_below n c.call count calls config holder (queue_after c.op queue) r.2 (less n low c.call l r.0))
  where
    less : (n low k : ℕ) → n ≤ low → low < k → n ≤ k
    less n low k a b = omega arith

    apart : (n low k : ℕ) → n ≤ low → low < k → k ≡ n → ⊥
    apart n low k a b e = omega arith

    with_none : (o : Option Answer) → answer_among n (stop_answers calls config holder (queue_after c.op queue)) ≡ None
        → answer_among n (with_answer c.call o (stop_answers calls config holder (queue_after c.op queue))) ≡ None
    with_none None h = h
    with_none (Some a) h = rw (ne_eqb c.call n (λ e. apart n low c.call l r.0 e)) h

-- ---- the open calls

-- a call with the number is open
abbrev pub opens : ℕ → List CallEntry → Bool
opens n [] = false
opens n (c ∷ calls) = if c.call == n then true else opens n calls

opens_found : (n : ℕ) (calls : List CallEntry) → is_some (open_call n calls) ≡ opens n calls
opens_found n [] = refl
opens_found n (c ∷ calls) = split (c.call == n) (λ e. rw e refl) (λ e. rw e (opens_found n calls))

-- the numbers are those that were given
opens_above : (n low count : ℕ) (calls : List CallEntry) → IsRising low count calls → opens n calls ≡ true → (low < n) × (n ≤ count)
opens_above n low count [] r h = absurd (true≢false (sym h))
opens_above n low count (c ∷ calls) r h = split (c.call == n)
    (λ it.
    let same : c.call ≡ n = eqb-true c.call n it in
    (subst (λ k. low < k) same r.0, subst (λ k. k ≤ count) same r.1))
    (λ no.
    let more = opens_above n c.call count calls r.2 (rw no at h) in
    let first : low < c.call = r.0 in
    let next : c.call < n = more.0 in
    (omega arith, more.1))

closed_below : (n low count : ℕ) (calls : List CallEntry) → IsRising low count calls → n ≤ low → opens n calls ≡ false
closed_below n low count calls r l = split (opens n calls) (λ e. absurd (past (opens_above n low count calls r e).0)) (λ e. e)
  where
    past : low < n → ⊥
    past m = omega arith

-- the open call of a thread
found_opens : (t : ℕ) (calls : List CallEntry) (c : CallEntry) → call_of_thread t calls ≡ Some c → opens c.call calls ≡ true
found_opens t [] c h = cc
found_opens t (d ∷ calls) c h = split (d.thread == t)
    (λ mine. let same : d.call ≡ c.call = ap (λ (x : CallEntry). x.call) (inner (rw mine at h)) in rw (eq-eqb d.call c.call same) refl)
    (λ other. split (d.call == c.call)
    (λ e. rw e refl)
    (λ e. rw e (found_opens t calls c (rw other at h))))
  where
    inner : {x y : CallEntry} → Some x ≡ Some y → x ≡ y
    inner i = cc

-- one more call
pushed : (n : ℕ) (calls : List CallEntry) (c : CallEntry) → opens n (calls ++ c ∷ []) ≡ (opens n calls || (c.call == n))
pushed n [] c = split (c.call == n) (λ e. rw e refl) (λ e. rw e refl)
pushed n (d ∷ calls) c = split (d.call == n) (λ e. rw e refl) (λ e. rw e (pushed n calls c))

-- calls change but keep their numbers
renamed : (f : CallEntry → CallEntry) (n : ℕ) (calls : List CallEntry) → ((c : CallEntry) → (f c).call ≡ c.call) → opens n (map f calls) ≡ opens n calls
renamed f n [] same = refl
renamed f n (c ∷ calls) same = rw (same c, renamed f n calls same) refl

-- ---- what is answered

-- the number was given, and the call is no longer open
abbrev is_done : ℕ → ℕ → List CallEntry → Bool
is_done n count calls = (nat_le 1 n && nat_le n count) && not (opens n calls)

or_false : (b : Bool) → b ≡ (b || false)
or_false true = refl
or_false false = refl

and_true : (b : Bool) → b ≡ (b && true)
and_true true = refl
and_true false = refl

and_false : (b : Bool) → (b && false) ≡ false
and_false true = refl
and_false false = refl

closed_by : (given was reported : Bool) → (reported ≡ true → was ≡ true) → (was ≡ true → given ≡ true) → (given && not (was && not reported)) ≡ ((given && not was) || reported)
closed_by true true true f g = refl
closed_by true true false f g = refl
closed_by true false true f g = absurd (true≢false (sym (f refl)))
closed_by true false false f g = refl
closed_by false true reported f g = absurd (true≢false (sym (g refl)))
closed_by false false true f g = absurd (true≢false (sym (f refl)))
closed_by false false false f g = refl

in_range : (n count : ℕ) → 0 < n → n ≤ count → (nat_le 1 n && nat_le n count) ≡ true
in_range n count a b = rw (le-leb 1 n (omega arith), le-leb n count b) refl

-- open calls are answered, and no other
closing : (n count : ℕ) (calls after : List CallEntry) (reported : Bool) → IsRising 0 count calls → opens n after ≡ (opens n calls && not reported)
    → (reported ≡ true → opens n calls ≡ true) → is_done n count after ≡ (is_done n count calls || reported)
closing n count calls after reported r now was =
    ap (λ (o : Bool). (nat_le 1 n && nat_le n count) && not o) now
    ∙ closed_by (nat_le 1 n && nat_le n count) (opens n calls) reported was
    (λ e. let b = opens_above n 0 count calls r e in in_range n count b.0 b.1)

-- nothing is answered
keeping : (n count : ℕ) (calls after : List CallEntry) → opens n after ≡ opens n calls → is_done n count after ≡ (is_done n count calls || false)
keeping n count calls after same = ap (λ (o : Bool). (nat_le 1 n && nat_le n count) && not o) same ∙ or_false (is_done n count calls)

pub no_call : (call c : ℕ) → answer_among call (one_answer c None) ≡ None
no_call call c = refl

silent : (n c count : ℕ) (calls after : List CallEntry) → opens n after ≡ opens n calls
    → is_done n count after ≡ (is_done n count calls || is_some (answer_among n (one_answer c None)))
silent n c count calls after same =
    keeping n count calls after same ∙ ap (λ (a : Option Answer). is_done n count calls || is_some a) (sym (no_call n c))

-- one open call is answered
removed : (n k : ℕ) (a : Answer) (calls : List CallEntry) → opens n (filter (λ d. not (is_call k d)) calls) ≡ (opens n calls && not (is_some (answer_among n (one_answer k (Some a)))))
removed n k a [] = refl
removed n k a (c ∷ calls) = by_rest (removed n k a calls)
  where
    apart : (c.call == k) ≡ false → (c.call == n) ≡ true → (k == n) ≡ false
    apart differs mine = ne_eqb k n (λ e. true≢false (sym (eq-eqb c.call k (eqb-true c.call n mine ∙ sym e)) ∙ differs))

    by_rest : opens n (filter (λ d. not (is_call k d)) calls) ≡ (opens n calls && not (is_some (answer_among n (one_answer k (Some a)))))
        → opens n (filter (λ d. not (is_call k d)) (c ∷ calls)) ≡ (opens n (c ∷ calls) && not (is_some (answer_among n (one_answer k (Some a)))))
    by_rest more = split (c.call == k)
        (λ it. split (k == n)
        (λ same. rw (it, eq-eqb c.call n (eqb-true c.call k it ∙ eqb-true k n same), same) (rw same at more ∙ and_false (opens n calls)))
        (λ other. rw (it, ap (λ (m : ℕ). m == n) (eqb-true c.call k it) ∙ other, other) (rw other at more)))
        (λ no. split (c.call == n)
        (λ mine. rw (no, mine, apart no mine) refl)
        (λ other. rw (no, other) more))

reported : (n k count : ℕ) (a : Answer) (calls : List CallEntry) → IsRising 0 count calls → opens k calls ≡ true
    → is_done n count (filter (λ d. not (is_call k d)) calls) ≡ (is_done n count calls || is_some (answer_among n (one_answer k (Some a))))
reported n k count a calls r waits =
    closing n count calls (filter (λ d. not (is_call k d)) calls) (is_some (answer_among n (one_answer k (Some a)))) r (removed n k a calls) (λ e. split (k == n)
    (λ same. subst (λ (m : ℕ). opens m calls ≡ true) (eqb-true k n same) waits)
    (λ other. absurd (true≢false (sym (rw other at e)))))

-- ---- Invoke

given : (n count : ℕ) (o : Bool) → (o ≡ true → n ≤ count)
    → ((nat_le 1 n && nat_le n (count + 1)) && not (o || (count + 1 == n))) ≡ ((nat_le 1 n && nat_le n count) && not o)
given n count o h = grind (arith, nat_tests)

at_once : (n count : ℕ) (o : Bool) → (o ≡ true → n ≤ count)
    → ((nat_le 1 n && nat_le n (count + 1)) && not o) ≡ (((nat_le 1 n && nat_le n count) && not o) || (count + 1 == n))
at_once n count o h = grind (arith, nat_tests)

some_call : (call c : ℕ) (a : Answer) → is_some (answer_among call (one_answer c (Some a))) ≡ (c == call)
some_call call c a = split (c == call) (λ e. rw e refl) (λ e. rw e refl)

abbrev Says : PartState → ℕ → Stepped → Type 0
Says p n turn = is_done n turn.state.log.count turn.state.log.pending ≡ (is_done n p.log.count p.log.pending || is_some (answer_at n turn.event))

invoked_says : (p : PartState) (n thread : ℕ) (o : Op) (a : Option Answer) (queue : List (List ℕ)) → IsTied p → Says p n (invoked_with p thread o a queue)
unfolding with_call with_answered_call
invoked_says p n thread o None queue tied =
    let count = p.log.count in
    ap (λ (b : Bool). (nat_le 1 n && nat_le n (count + 1)) && not b) (pushed n p.log.pending (new_entry (count + 1) thread o))
    ∙ given n count (opens n p.log.pending) (λ e. (opens_above n 0 count p.log.pending tied.rising e).1)
    ∙ silent n (count + 1) count p.log.pending p.log.pending refl
invoked_says p n thread o (Some a) queue tied =
    let count = p.log.count in
    at_once n count (opens n p.log.pending) (λ e. (opens_above n 0 count p.log.pending tied.rising e).1)
    ∙ ap (λ (b : Bool). is_done n count p.log.pending || b) (sym (some_call n (count + 1) a))

invoke_says : (p : PartState) (n thread : ℕ) (o : Op) → IsTied p → Says p n (after_invoke thread o p)
unfolding after_invoke
invoke_says p n thread o tied = by_check (static_check p.spec.class p.spec.blocks o)
  where
    by_check : (a : Option Answer) → Says p n (invoked_by p thread o a)
    by_check None = invoked_says p n thread o (answer_in p.mode thread o p) (queue_in p.mode o p.queue) tied
    by_check (Some a) = invoked_says p n thread o (Some a) p.queue tied

-- ---- Enter

enter_says : (p : PartState) (n thread : ℕ) → IsTied p → Says p n (after_enter thread p)
unfolding after_enter after_answering after_entering
enter_says p n thread tied = by_call (call_of_thread thread p.log.pending) refl
  where
    by_answer : (c : CallEntry) → opens c.call p.log.pending ≡ true → (a : Admit) → Says p n (after_admit p c a)
    by_answer c waits (admits.Reply a) = reported n c.call p.log.count a p.log.pending tied.rising waits
    by_answer c waits admits.TakeFrame = reported n c.call p.log.count _ p.log.pending tied.rising waits
    by_answer c waits (admits.Enter position) = silent n c.call p.log.count p.log.pending (map (change_entry c.call entered_call) p.log.pending)
        (renamed (change_entry c.call entered_call) n p.log.pending (λ d. split (is_call c.call d) (λ e. rw e refl) (λ e. rw e refl)))

    by_call : (o : Option CallEntry) → call_of_thread thread p.log.pending ≡ o → Says p n (entered_by p thread o)
    by_call None e = silent n 0 p.log.count p.log.pending p.log.pending refl
    by_call (Some c) e = by_answer c (found_opens thread p.log.pending c e) (admit p.spec.class thread c.op p.log.holder _)

-- ---- Burst

burst_by : (context : ℕ) (p q : PartState) (n : ℕ) (x : Crossed) → IsTied p → q.log ≡ p.log → x.state.log.count ≡ p.log.count → Shows context q x
    → is_done n x.state.log.count x.state.log.pending ≡ (is_done n p.log.count p.log.pending || is_some (answer_among n (one_answer (served_number context p) x.answer)))
burst_by context p q n x tied same counted (inl h) =
    ap (λ (k : ℕ). is_done n k x.state.log.pending) counted
    ∙ silent n (served_number context p) p.log.count p.log.pending x.state.log.pending (ap (opens n) (h.1 ∙ ap (λ l. l.pending) same))
    ∙ ap (λ (a : Option Answer). is_done n p.log.count p.log.pending || is_some (answer_among n (one_answer (served_number context p) a))) (sym h.0)
burst_by context p q n x tied same counted (inr h) =
    let found : call_of_thread context p.log.pending ≡ Some h.c = ap (λ l. call_of_thread context l.pending) (sym same) ∙ h.found in
    let served : served_number context p ≡ h.c.call = rw (h.other, found) refl in
    let waits : opens h.c.call p.log.pending ≡ true = found_opens context p.log.pending h.c found in
    ap (λ (k : ℕ). is_done n k x.state.log.pending) counted
    ∙ ap (is_done n p.log.count) (h.closed ∙ ap (λ l. filter (λ d. not (is_call h.c.call d)) l.pending) same)
    ∙ reported n h.c.call p.log.count h.a p.log.pending tied.rising waits
    ∙ ap (λ (k : ℕ). is_done n p.log.count p.log.pending || is_some (answer_among n (one_answer k (Some h.a)))) (sym served)
    ∙ ap (λ (a : Option Answer). is_done n p.log.count p.log.pending || is_some (answer_among n (one_answer (served_number context p) a))) (sym h.reported)

burst_says : (p : PartState) (n context : ℕ) → IsTied p → Says p n (burst_stepped context p)
unfolding burst_stepped
burst_says p n context tied =
    let b = domain_burst context (faults_of_burst (p.bursts + 1) p.spec.faults) p.domain in
    let q = with_burst b.domain p in
    burst_by context p q n (after_crossing context b.ending q) tied refl ((crossed_counted context b.ending q).calls' ∙ add-zero p.log.count)
    (crossed_shows context b.ending q)

-- ---- Stage

stop_answers_open : (n : ℕ) (calls : List CallEntry) (config : List ℕ) (holder : Option ℕ) (queue : List (List ℕ))
    → is_some (answer_among n (stop_answers calls config holder queue)) ≡ true → opens n calls ≡ true
stop_answers_open n [] config holder queue h = absurd (true≢false (sym h))
stop_answers_open n (c ∷ calls) config holder queue h = split (c.call == n)
    (λ it. rw it refl)
    (λ no. rw no (by_shadow (shadow_answer c.op c.thread config holder stage.Stop queue) no (stop_answers_open n calls config holder (queue_after c.op queue)) h))
  where
    rest : List (ℕ × Answer)
    rest = stop_answers calls config holder (queue_after c.op queue)

    by_shadow : (o : Option Answer) → (c.call == n) ≡ false → (is_some (answer_among n rest) ≡ true → opens n calls ≡ true)
        → is_some (answer_among n (with_answer c.call o rest)) ≡ true → opens n calls ≡ true
    by_shadow None other more e = more e
    by_shadow (Some a) other more e = more (rw other at e)

stop_opens : (n low count : ℕ) (calls : List CallEntry) (config : List ℕ) (holder : Option ℕ) (queue : List (List ℕ)) → IsRising low count calls
    → opens n (filter (λ c. is_held c.op) calls) ≡ (opens n calls && not (is_some (answer_among n (stop_answers calls config holder queue))))
stop_opens n low count [] config holder queue r = refl
stop_opens n low count (c ∷ calls) config holder queue r =
    by_shadow (shadow_says c.op c.thread config holder queue) (stop_opens n c.call count calls config holder (queue_after c.op queue) r.2)
  where
    rest : List (ℕ × Answer)
    rest = stop_answers calls config holder (queue_after c.op queue)

    none : (c.call == n) ≡ true → answer_among n rest ≡ None
    none it = subst (λ (m : ℕ). answer_among m rest ≡ None) (eqb-true c.call n it)
        (none_below c.call c.call count calls config holder (queue_after c.op queue) r.2 (omega arith))

    shut : (c.call == n) ≡ true → opens n calls ≡ false
    shut it = subst (λ (m : ℕ). opens m calls ≡ false) (eqb-true c.call n it) (closed_below c.call c.call count calls r.2 (omega arith))

    by_shadow : ((is_held c.op ≡ true) × (shadow_answer c.op c.thread config holder stage.Stop queue ≡ None))
        ⊎ ((is_held c.op ≡ false) × ((a : Answer) × (shadow_answer c.op c.thread config holder stage.Stop queue ≡ Some a)))
        → opens n (filter (λ c. is_held c.op) calls) ≡ (opens n calls && not (is_some (answer_among n rest)))
        → opens n (filter (λ c. is_held c.op) (c ∷ calls)) ≡ (opens n (c ∷ calls) && not (is_some (answer_among n (stop_answers (c ∷ calls) config holder queue))))
    by_shadow (inl h) more = split (c.call == n)
        (λ it. rw (h.0, h.1, it, none it) refl)
        (λ no. rw (h.0, h.1, no) more)
    by_shadow (inr h) more = split (c.call == n)
        (λ it. rw (h.0, h.1.1, it) (more ∙ ap (λ (b : Bool). b && not (is_some (answer_among n rest))) (shut it)))
        (λ no. rw (h.0, h.1.1, no) more)

gone_opens : (failures n : ℕ) (calls : List CallEntry) → is_some (answer_among n (gone_answers failures calls)) ≡ opens n calls
gone_opens failures n [] = refl
gone_opens failures n (c ∷ calls) = split (c.call == n) (λ e. rw e refl) (λ e. rw e (gone_opens failures n calls))

and_not : (b : Bool) → false ≡ (b && not b)
and_not true = refl
and_not false = refl

gone_says : (failures n count : ℕ) (calls : List CallEntry) → IsRising 0 count calls
    → is_done n count [] ≡ (is_done n count calls || is_some (answer_among n (gone_answers failures calls)))
gone_says failures n count calls r =
    let all = gone_opens failures n calls in
    closing n count calls [] (is_some (answer_among n (gone_answers failures calls))) r
    (and_not (opens n calls) ∙ ap (λ (b : Bool). opens n calls && not b) (sym all)) (λ e. sym all ∙ e)

quiet : (p : PartState) (n : ℕ) → is_done n p.log.count p.log.pending ≡ (is_done n p.log.count p.log.pending || false)
quiet p n = or_false (is_done n p.log.count p.log.pending)

stage_says : (p : PartState) (n : ℕ) → IsTied p → Says p n (stage_stepped p)
unfolding stage_stepped stops gives_up_part collects resets loads_image inits replays_set replays_open resumes
stage_says p n tied = by_due (stage_due p.mode)
  where
    at_stop : (b : Bool) → is_given_up p ≡ b → Says p n (stage_done stage.Stop p)
    at_stop true e = rw e (gone_says p.failures n p.log.count p.log.pending tied.rising)
    at_stop false e = rw e
        (closing n p.log.count p.log.pending (map held_call (filter (λ c. is_held c.op) p.log.pending))
        (is_some (answer_among n (stop_answers p.log.pending p.log.config p.log.holder p.queue))) tied.rising
        (renamed held_call n (filter (λ c. is_held c.op) p.log.pending) (λ c. refl)
        ∙ stop_opens n 0 p.log.count p.log.pending p.log.config p.log.holder p.queue tied.rising)
        (stop_answers_open n p.log.pending p.log.config p.log.holder p.queue))

    by_due : (o : Option Stage) → Says p n (stage_by p o)
    by_due None = quiet p n
    by_due (Some stage.Stop) = at_stop (is_given_up p) refl
    by_due (Some stage.Collect) = quiet p n
    by_due (Some stage.Reset) = quiet p n
    by_due (Some stage.Load) = quiet p n
    by_due (Some stage.Init) = quiet p n
    by_due (Some (stage.ReplaySet key value)) = quiet p n
    by_due (Some stage.ReplayOpen) = quiet p n
    by_due (Some stage.Resume) = quiet p n

-- ---- any step

step_says : (p : PartState) (s : Step) (n : ℕ) → IsTied p → Says p n (stepped p s)
unfolding stepped after_arrival
step_says p (step.Invoke thread o) n tied = invoke_says p n thread o tied
step_says p (step.Enter thread) n tied = enter_says p n thread tied
step_says p (step.Burst context) n tied = burst_says p n context tied
step_says p step.Stage n tied = stage_says p n tied
step_says p (step.Arrive frame) n tied = quiet p n

-- ---- a run

either : (a b c : Bool) → ((a || b) || c) ≡ (a || (b || c))
either true b c = refl
either false b c = refl

first_or_later : (position n : ℕ) (e : Event) (events : List Event)
    → is_some (answered_from position n (e ∷ events)) ≡ (is_some (answer_at n e) || is_some (answered_from (position + 1) n events))
first_or_later position n e events = split (is_some (answer_at n e)) (λ h. rw h refl) (λ h. rw h refl)

answered_by : (position n : ℕ) (p : PartState) (events : List Event) → IsFit p → IsTied p → IsRunFrom p events
    → (is_done n p.log.count p.log.pending || is_some (answered_from position n events))
    ≡ is_done n (state_from p events).log.count (state_from p events).log.pending
unfolding IsRunFrom state_from
answered_by position n p [] fit tied r = sym (or_false (is_done n p.log.count p.log.pending))
answered_by position n p (e ∷ events) fit tied r =
    let q : PartState = state_after p (step_of e) in
    let before : Bool = is_done n p.log.count p.log.pending in
    let now : is_done n q.log.count q.log.pending ≡ (before || is_some (answer_at n e)) =
    step_says p (step_of e) n tied ∙ ap (λ (x : Event). before || is_some (answer_at n x)) r.1 in
    ap (λ (b : Bool). before || b) (first_or_later position n e events)
    ∙ sym (either before (is_some (answer_at n e)) (is_some (answered_from (position + 1) n events)))
    ∙ ap (λ (b : Bool). b || is_some (answered_from (position + 1) n events)) (sym now)
    ∙ answered_by (position + 1) n q events (fit_after p (step_of e) fit r.0) (tied_after p (step_of e) fit tied r.0) r.2

none_given : (spec : PartSpec) (n : ℕ) → is_done n (opening spec).log.count (opening spec).log.pending ≡ false
unfolding opening opening_log
none_given spec n = none n
  where
    none : (n : ℕ) → ((nat_le 1 n && nat_le n 0) && true) ≡ false
    none n = grind (arith, nat_tests)

pub run_answered : (spec : PartSpec) (journal : List Event) → IsFitSpec spec → IsRun spec journal → (call : ℕ)
    → is_some (answered_at journal call) ≡ is_answered (state_of spec journal).log call
run_answered spec journal s r call =
    let log = (state_of spec journal).log in
    ap (λ (b : Bool). b || is_some (answered_at journal call)) (sym (none_given spec call))
    ∙ answered_by 1 call (opening spec) journal (opening_fit spec s) (opening_tied spec) r
    ∙ ap (λ (b : Bool). (nat_le 1 call && nat_le call log.count) && not b) (sym (opens_found call log.pending))
