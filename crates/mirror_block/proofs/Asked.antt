-- How asking a side ends, from how its desk's call ends.
use Rattle.std.proofs.Common.{◌≡◌, ◌⊎◌, ℕ, suc, ◌+◌, ◌-◌, ◌<◌, ◌≤◌, true, false, Option, Some, None, Ok, Err, List, [], ◌∷◌, length, slice_get, subst, sym, refl, ap, ◌∙◌, inl, inr, arith}
use Rattle.nook_data.specs.declared.calls.Answer.{Answer}
use Rattle.nook_data.specs.declared.calls.CallEntry.{CallEntry}
use Rattle.nook_data.specs.declared.classes.Class.TheVariants.{Block}
use Rattle.nook_data.specs.declared.desks.DeskRefused.{DeskRefused}
use Rattle.nook_data.specs.declared.desks.DeskRefused.TheVariants as refused
use Rattle.nook_data.specs.declared.steps.Event.{Event}
use Rattle.nook_data.specs.declared.steps.Event.TheVariants as event
use Rattle.nook_data.specs.declared.calls.Op.{Op}
use Rattle.nook_data.specs.declared.scenario.PartSpec.{PartSpec}
use Rattle.nook_data.specs.declared.desks.Receipt.{Receipt}
use Rattle.nook_data.specs.Classes.{static_check}
use Rattle.part_defs.specs.Log.{call_of_thread}
use Rattle.nook_data.specs.Numbered.{at_number}
use Rattle.part_defs.specs.Runs.{IsRun, state_of}
use Rattle.part_defs.specs.State.{PartState}
use Rattle.shares.specs.Shares.{IsWhole}
use Rattle.desk_like.specs.Desks.{Accounts, CallEnds, DeskView, HasOpen}
use Rattle.mirror_block.specs.Disk.{IsShown, MayAnswer}
use Rattle.mirror_block.specs.Rule.{is_disk_op}
use Rattle.mirror_block.specs.Sides.{IsAsked, IsFull, IsSide, NeedsMemory, and_more, answers_gained}
use Rattle.mirror_block.proofs.Calls.{answered_once, asked, calls_counted, closed_following, given, open_unanswered}
use Rattle.mirror_block.proofs.DiskAnswers.{called_may}
use Rattle.mirror_block.proofs.Gains.{IsCalled, called, nothing_added, position_after}
use Rattle.mirror_block.proofs.Plain.{call_shown, served_by}

-- if no call is open, no thread has an open one
none_has : (p : PartState) (thread call : ℕ) → p.log.pending ≡ [] → HasOpen p thread call → ⊥
none_has p thread call none h = absurd cc (sym h.open_one ∙ ap (λ (l : List CallEntry). call_of_thread thread l) none)

module _ (spec : PartSpec) (old new : DeskView) (o : Op) (side : IsSide spec spec.blocks false old) (run : IsRun spec new.seen) (accounts : Accounts new) where
  none : (state_of spec old.seen).log.pending ≡ []
  none = side.none_open refl

  -- the side of a mirror that stopped
  stopped_side : new.share ≡ old.share → IsSide spec spec.blocks true new
  stopped_side a = record {
    class = side.class;
    size = refl;
    alone = subst IsWhole (sym a) side.alone;
    accounts = accounts;
    run = run;
    none_open = λ e. absurd cc;
    idle = λ e. absurd cc;
  }

  -- an event from the invocation on, by its number
  from_position : (call at : ℕ) (e : Event) → (c : IsCalled old new call o) → suc (length old.seen) ≤ at → at_number at new.seen ≡ Some e
      → (i : ℕ) × (slice_get (event.Invoke call 0 o c.answer ∷ c.tail) i ≡ Some e)
  from_position call at e c low there =
      let i : ℕ = at - suc (length old.seen) in
      let index : at ≡ suc (length old.seen + i) = omega arith in (
        i,
        sym (position_after old.seen (event.Invoke call 0 o c.answer ∷ c.tail) i)
            ∙ ap (λ (l : List Event). slice_get l (length old.seen + i)) c.seen ∙ ap (λ (n : ℕ). at_number n new.seen) (sym index) ∙ there,
      )

  pub said : (receipt : Receipt) → is_disk_op o ≡ true → CallEnds spec old new 0 o (Ok receipt)
      → IsAsked old new o × (answers_gained old new ≡ receipt.answer ∷ []) × IsSide spec spec.blocks false new × IsShown spec.blocks old.seen new.seen o receipt.answer
      × (static_check Block spec.blocks o ≡ None → MayAnswer receipt.answer o)
  said receipt disk_op ends =
      let c : IsCalled old new receipt.call o = called old new receipt.call o receipt.at_invoke side.alone ends.0 in
      let low : length old.seen < receipt.at_invoke = ends.0.adds.rising.0 in
      let later : receipt.at_invoke ≤ receipt.at_reply = ends.1.ordered in
      let index = from_position receipt.call receipt.at_reply ends.1.answered.event c (omega arith) ends.1.answered.there in
      let first = answered_once spec old new receipt.call o run none c receipt.answer index.0 ends.1.answered.event index.1 ends.1.answered.is in (
        asked spec old new receipt.call o run none c,
        given spec old new receipt.call o run none c ∙ ap (λ (x : Option Answer). and_more x []) first,
        record {
          class = side.class;
          size = refl;
          alone = subst IsWhole (sym ends.0.adds.share) side.alone;
          accounts = accounts;
          run = run;
          none_open = λ e. closed_following spec old new receipt.call o run none c receipt.answer first;
          idle = λ e device shows. (served_by spec.blocks old new receipt.call o disk_op c receipt.answer first (side.idle refl) device shows).over;
        },
        call_shown spec.blocks old new receipt.call o disk_op c receipt.answer first (side.idle refl),
        λ e. called_may spec old new receipt.call o disk_op side.class run none c e receipt.answer first,
      )

  pub no_memory : (which : Option ℕ) → CallEnds spec old new 0 o (Err (refused.NoMemory which)) → NeedsMemory old new o × IsSide spec spec.blocks true new
  no_memory None ends = (inl (nothing_added old new side.alone ends), stopped_side ends.share)
  no_memory (Some call) ends =
      let c : IsCalled old new call o = called old new call o ends.1.0 side.alone ends.1.1 in
      let first = open_unanswered spec old new call o run none c ends.0 in (
        inr (asked spec old new call o run none c, given spec old new call o run none c ∙ ap (λ (x : Option Answer). and_more x []) first),
        stopped_side ends.1.1.adds.share,
      )

  -- no call is open at a side that is asked, so a refusal means that memory or call numbers ran out
  pub why_refused : (why : DeskRefused) → CallEnds spec old new 0 o (Err why) → ((which : Option ℕ) × (why ≡ refused.NoMemory which)) ⊎ (why ≡ refused.TooManyCalls)
  why_refused (refused.NoMemory which) ends = inl (which, refl)
  why_refused refused.TooManyCalls ends = inr refl
  why_refused (refused.OpenCall call) ends =
      let same = nothing_added old new side.alone ends.0 in
      let pending : (state_of spec new.seen).log.pending ≡ [] = ap (λ (seen : List Event). (state_of spec seen).log.pending) same.seen ∙ none in
      absurd (none_has (state_of spec new.seen) 0 call pending ends.1)
  why_refused refused.NoOpenCall ends = absurd ends
  why_refused refused.TooManyArrivals ends = absurd ends

  pub full : CallEnds spec old new 0 o (Err refused.TooManyCalls) → IsFull old new o
  full ends =
      let same = nothing_added old new side.alone ends.0 in (
        same,
        sym (calls_counted spec old.seen side.run) ∙ ap (λ (seen : List Event). (state_of spec seen).log.count) (sym same.seen) ∙ ends.2,
      )
