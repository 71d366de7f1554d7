-- How calls of several turns change what a seat knows.
use Rattle.std.proofs.Common.{ℕ, ◌<◌, ◌≤◌, Bool, true, false, Some, None, Result, Ok, Err, length, sym, ◌∙◌, subst, arith}
use Rattle.nook_data.specs.declared.desks.DeskRefused.{DeskRefused}
use Rattle.nook_data.specs.declared.desks.DeskRefused.TheVariants as refused
use Rattle.nook_data.specs.declared.calls.Op.{Op}
use Rattle.nook_data.specs.declared.scenario.PartSpec.{PartSpec}
use Rattle.nook_data.specs.declared.desks.Receipt.{Receipt}
use Rattle.nook_data.specs.declared.memory.NoMemory.{NoMemory}
use Rattle.desk_like.specs.Desks.{DeskView, IsAt, IsInvoke, IsReply, Waits, Invokes, HasOpen, CallEnds, ResumeEnds, state_seen}
use Rattle.turn_lock.proofs.Prefixes.{prefix_length}
use Rattle.part_server.specs.declared.waiting.Progress.TheVariants as progress
use Rattle.part_server.specs.declared.waiting.Waiting.{Waiting}
use Rattle.part_server.specs.Answers.{InvokesCall}
use Rattle.part_server.specs.Turns.{IsWaitingIn, IsSameCall, InvokeEnds, AdvanceEnds, FinishEnds, FindEnds, SettlesOnce}
use Rattle.part_server.proofs.Views.{at_low, still_at, waits_nothing, waits_more, invokes_more}

module _ (spec : PartSpec) (u v x : DeskView) where
  -- ---- turn after turn

  pub finish_ok : (first w : Waiting) (receipt : Receipt) → Waits u v → IsSameCall first w → AdvanceEnds spec v x w (Ok (progress.Answered receipt))
      → FinishEnds spec u x first (Ok receipt)
  finish_ok first w receipt before same h =
      let low : length u.seen ≤ length v.seen = prefix_length u.seen v.seen before.adds.seen in
      let past : length v.seen < receipt.at_reply = h.4 in (
        waits_more u v x before h.0,
        h.1 ∙ same.0,
        h.2 ∙ same.2,
        subst (λ (n : ℕ). IsAt x.seen receipt.at_reply (IsReply n receipt.answer)) same.0 h.3,
        omega arith,
      )

  pub finish_err : (first w : Waiting) (e : DeskRefused) → Waits u v → IsSameCall first w → AdvanceEnds spec v x w (Err e) → FinishEnds spec u x first (Err e)
  finish_err first w (refused.NoMemory None) before same h = absurd h
  finish_err first w (refused.NoMemory (Some call)) before same h = (
    waits_more u v x before h.0,
    subst (λ (n : ℕ). HasOpen (state_seen spec x) n first.call) same.1 (subst (λ (n : ℕ). HasOpen (state_seen spec x) w.thread n) same.0 h.1),
    h.2 ∙ same.0,
  )
  finish_err first w refused.TooManyCalls before same h = absurd h
  finish_err first w (refused.OpenCall call) before same h = absurd h
  finish_err first w refused.NoOpenCall before same h = absurd h
  finish_err first w refused.TooManyArrivals before same h = absurd h

  pub finish_more : (first w next : Waiting) → Waits u v → IsSameCall first w → AdvanceEnds spec v x w (Ok (progress.Open next))
      → Waits u x × IsSameCall first next × IsWaitingIn spec x next
  finish_more first w next before same h = (waits_more u v x before h.0, (h.1.0 ∙ same.0, h.1.1 ∙ same.1, h.1.2 ∙ same.2), h.2)

  -- ---- a call

  pub call_ok : (thread : ℕ) (o : Op) (w : Waiting) (receipt : Receipt) → InvokeEnds spec u v thread o (Ok (progress.Open w))
      → FinishEnds spec v x w (Ok receipt) → CallEnds spec u x thread o (Ok receipt)
  call_ok thread o w receipt a b =
      let low = at_low w.at_invoke v.seen (IsInvoke w.call thread o) a.1 in
      let at : w.at_invoke ≤ length v.seen = low.1 in
      let past : length v.seen < receipt.at_reply = b.4 in
      let number = b.2 in
      let all : Invokes u x w.call thread o w.at_invoke = invokes_more u v x w.call thread o w.at_invoke a.0 a.1 b.0 in
      let mine : Invokes u x receipt.call thread o receipt.at_invoke =
      subst (λ (n : ℕ). Invokes u x n thread o receipt.at_invoke) (sym b.1) (subst (λ (n : ℕ). Invokes u x w.call thread o n) (sym number) all) in (
        mine,
        record {
          invoked = mine.invoked;
          answered = subst (λ (n : ℕ). IsAt x.seen receipt.at_reply (IsReply n receipt.answer)) (sym b.1) b.3;
          ordered = omega arith;
        },
      )

  pub call_err : (thread : ℕ) (o : Op) (w : Waiting) (e : DeskRefused) → InvokeEnds spec u v thread o (Ok (progress.Open w))
      → FinishEnds spec v x w (Err e) → CallEnds spec u x thread o (Err e)
  call_err thread o w (refused.NoMemory None) a b = absurd b
  call_err thread o w (refused.NoMemory (Some call)) a b = (
    subst (λ (n : ℕ). HasOpen (state_seen spec x) thread n) (sym b.2) (subst (λ (n : ℕ). HasOpen (state_seen spec x) n w.call) a.2 b.1),
    (w.at_invoke, subst (λ (n : ℕ). Invokes u x n thread o w.at_invoke) (sym b.2) (invokes_more u v x w.call thread o w.at_invoke a.0 a.1 b.0)),
  )
  call_err thread o w refused.TooManyCalls a b = absurd b
  call_err thread o w (refused.OpenCall call) a b = absurd b
  call_err thread o w refused.NoOpenCall a b = absurd b
  call_err thread o w refused.TooManyArrivals a b = absurd b

  -- ---- an open call that is resumed

  pub resume_ok : (thread : ℕ) (w : Waiting) (receipt : Receipt) → FindEnds spec u v thread (Ok w) → FinishEnds spec v x w (Ok receipt)
      → ResumeEnds spec u x thread (Ok receipt)
  resume_ok thread w receipt a b =
      let found : IsAt v.seen w.at_invoke (InvokesCall w.call thread) = a.3 in
      let o : Op = found.is.0 in
      let here : IsAt v.seen w.at_invoke (IsInvoke w.call thread o) = record { event = found.event; there = found.there; is = found.is.1 } in
      let later : IsAt x.seen w.at_invoke (IsInvoke w.call thread o) = still_at w.at_invoke v.seen x.seen (IsInvoke w.call thread o) b.0.adds.seen here in
      let low : length u.seen ≤ length v.seen = prefix_length u.seen v.seen a.0.seen in
      let at : w.at_invoke ≤ length v.seen = (at_low w.at_invoke v.seen (IsInvoke w.call thread o) here).1 in
      let past : length v.seen < receipt.at_reply = b.4 in
      let number = b.2 in (
        waits_more u v x (waits_nothing u v a.0) b.0,
        record {
          op = o;
          known = record {
            invoked = subst (λ (n : ℕ). IsAt x.seen n (IsInvoke receipt.call thread o)) (sym number)
                (subst (λ (n : ℕ). IsAt x.seen w.at_invoke (IsInvoke n thread o)) (sym b.1) later);
            answered = subst (λ (n : ℕ). IsAt x.seen receipt.at_reply (IsReply n receipt.answer)) (sym b.1) b.3;
            ordered = omega arith;
          };
          later = omega arith;
        },
      )

  pub resume_err : (thread : ℕ) (w : Waiting) (e : DeskRefused) → FindEnds spec u v thread (Ok w) → FinishEnds spec v x w (Err e)
      → ResumeEnds spec u x thread (Err e)
  resume_err thread w (refused.NoMemory None) a b = absurd b
  resume_err thread w (refused.NoMemory (Some call)) a b = (
    waits_more u v x (waits_nothing u v a.0) b.0,
    subst (λ (n : ℕ). HasOpen (state_seen spec x) thread n) (sym b.2) (subst (λ (n : ℕ). HasOpen (state_seen spec x) n w.call) a.1 b.1),
  )
  resume_err thread w refused.TooManyCalls a b = absurd b
  resume_err thread w (refused.OpenCall call) a b = absurd b
  resume_err thread w refused.NoOpenCall a b = absurd b
  resume_err thread w refused.TooManyArrivals a b = absurd b

  -- ---- settling a desk

  pub settle_any : (more : Bool) → Waits u v → SettlesOnce spec v x (Ok more) → Waits u x
  settle_any true a b = waits_more u v x a b
  settle_any false a b = waits_more u v x a (waits_nothing v x b.0)

  pub settle_err : (e : NoMemory) → Waits u v → SettlesOnce spec v x (Err e) → Waits u x
  settle_err e a b = waits_more u v x a (waits_nothing v x b)

  -- ---- how each call ends

  pub call_any : (thread : ℕ) (o : Op) (w : Waiting) (r : Result Receipt DeskRefused) → InvokeEnds spec u v thread o (Ok (progress.Open w))
      → FinishEnds spec v x w r → CallEnds spec u x thread o r
  call_any thread o w (Ok receipt) a b = call_ok thread o w receipt a b
  call_any thread o w (Err e) a b = call_err thread o w e a b

  pub resume_any : (thread : ℕ) (w : Waiting) (r : Result Receipt DeskRefused) → FindEnds spec u v thread (Ok w) → FinishEnds spec v x w r
      → ResumeEnds spec u x thread r
  resume_any thread w (Ok receipt) a b = resume_ok thread w receipt a b
  resume_any thread w (Err e) a b = resume_err thread w e a b
