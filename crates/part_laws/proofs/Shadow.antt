use Rattle.std.proofs.Common.{if◌then◌else◌, ◌≡◌, ℕ, not, eqb, Bool, true, false, Option, Some, None, List, [], ◌∷◌, ◌++◌, slice_index, refl, ap, arith}
use Rattle.std.proofs.lemmas.Bool.{and_from, eq-eqb}
use Rattle.nook_data.specs.declared.calls.Answer.{Answer}
use Rattle.nook_data.specs.declared.calls.Answer.TheVariants as answered
use Rattle.nook_data.specs.declared.calls.Op.{Op}
use Rattle.nook_data.specs.declared.calls.Op.TheVariants.{Read, Write, Send, Recv, Open, Play, Close, Get, Set}
use Rattle.nook_data.specs.declared.steps.Stage.{Stage}
use Rattle.nook_data.specs.declared.steps.Stage.TheVariants as stage
use Rattle.nook_data.specs.Classes.{is_holder}
use Rattle.part_laws.specs.Watch.{Watch}
use Rattle.promise_defs.specs.Ideal.{Ideal}
use Rattle.part_laws.specs.Allowed.{allows}
use Rattle.part_defs.specs.Log.{shadow_answer, is_held, queue_after, frame_or_empty}
use Rattle.promise_defs.specs.Trace.{Track, kept_blocks}
use Rattle.promise_defs.specs.Licence.{same_stage}
use Rattle.part_laws.specs.Facts.{Sub}
use Rattle.part_laws.proofs.Balances.{TakesFrame}
use Rattle.part_laws.proofs.Closing.{Comes, frame_comes}
use Rattle.part_laws.proofs.Subs.{Taken, sub_front}

-- The never-failing device may give every answer of the shadow's table, and each is licensed.

pub same_stage_refl : (s : Stage) → same_stage s s ≡ true
same_stage_refl stage.Stop = refl
same_stage_refl stage.Collect = refl
same_stage_refl stage.Reset = refl
same_stage_refl stage.Load = refl
same_stage_refl stage.Init = refl
same_stage_refl (stage.ReplaySet k v) = and_from (eqb k k) (eqb v v) (eq-eqb k k refl) (eq-eqb v v refl)
same_stage_refl stage.ReplayOpen = refl
same_stage_refl stage.Resume = refl

-- what holds of an answer of the shadow
pub record Says (m : Ideal) (thread : ℕ) (o : Op) (s : Stage) (queue tail : List (List ℕ)) (a : Answer) : Type 0 where
  pub kept : is_held o ≡ false
  pub frames : List (List ℕ)
  pub comes : Comes m thread o a [] (record m { pending = frames })
  pub chain : Sub (queue_after o queue ++ tail) frames
  pub blocks : (t : Option Track) → kept_blocks a t ≡ []
  pub allowed : (q : List (List ℕ)) (w : Watch) (n : ℕ) → allows (Some s) q w n a ≡ true
  pub counted : TakesFrame a queue (queue_after o queue)

-- what the shadow does with an operation: it holds or answers it
abbrev pub ShadowSays : Ideal → ℕ → Op → Stage → List (List ℕ) → List (List ℕ) → Option Answer → Type 0
ShadowSays m thread o s queue tail None = (is_held o ≡ true) × (queue_after o queue ≡ queue)
ShadowSays m thread o s queue tail (Some a) = Says m thread o s queue tail a

recv_says : (m : Ideal) (thread : ℕ) (s : Stage) (queue tail : List (List ℕ)) → Sub (queue ++ tail) m.pending
    → Says m thread Recv s queue tail (frame_or_empty queue)
unfolding shadow_answer
recv_says m thread s [] tail h = record
    { kept = refl; frames = m.pending; comes = record { may = refl; after = refl }; chain = h; blocks = λ t. refl; allowed = λ q w n. refl; counted = omega arith }
recv_says m thread s (frame ∷ queue) tail h = taken (sub_front frame (queue ++ tail) m.pending h)
  where
    taken : Taken frame (queue ++ tail) m.pending → Says m thread Recv s (frame ∷ queue) tail (answered.Frame frame)
    taken t = record
        { kept = refl; frames = t.rest; comes = frame_comes m thread frame [] t.rest t.after; chain = t.chain; blocks = λ t. refl; allowed = λ q w n. refl; counted = omega arith }

play_says : (m : Ideal) (thread : ℕ) (samples : List ℕ) (s : Stage) (queue tail : List (List ℕ)) → Sub (queue ++ tail) m.pending
    → (h : Bool) → is_holder m.holder thread ≡ h → Says m thread (Play samples) s queue tail (if h then answered.Done else answered.NotOpen)
unfolding shadow_answer
play_says m thread samples s queue tail c true e = record
    { kept = refl; frames = m.pending; comes = record { may = e; after = refl }; chain = c; blocks = λ t. refl; allowed = λ q w n. refl; counted = omega arith }
play_says m thread samples s queue tail c false e = record
    { kept = refl; frames = m.pending; comes = record { may = ap not e; after = refl }; chain = c; blocks = λ t. refl; allowed = λ q w n. refl; counted = omega arith }

pub shadow_says : (m : Ideal) (thread : ℕ) (o : Op) (s : Stage) (queue tail : List (List ℕ)) → Sub (queue ++ tail) m.pending
    → ShadowSays m thread o s queue tail (shadow_answer o thread m.config m.holder s queue)
unfolding shadow_answer
shadow_says m thread (Read first count) s queue tail h = (refl, refl)
shadow_says m thread (Write first words) s queue tail h = (refl, refl)
shadow_says m thread (Send frame) s queue tail h = record
    { kept = refl; frames = m.pending; comes = record { may = refl; after = refl }; chain = h; blocks = λ t. refl; allowed = λ q w n. refl; counted = omega arith }
shadow_says m thread Recv s queue tail h = recv_says m thread s queue tail h
shadow_says m thread Open s queue tail h = record
    { kept = refl; frames = m.pending; comes = record { may = refl; after = refl }; chain = h; blocks = λ t. refl; allowed = λ q w n. same_stage_refl s; counted = omega arith }
shadow_says m thread (Play samples) s queue tail h = play_says m thread samples s queue tail h (is_holder m.holder thread) refl
shadow_says m thread Close s queue tail h = (refl, refl)
shadow_says m thread (Get key) s queue tail h = record {
  kept = refl;
  frames = m.pending;
  comes = record { may = eq-eqb (slice_index m.config key) (slice_index m.config key) refl; after = refl };
  chain = h;
  blocks = λ t. refl;
  allowed = λ q w n. refl;
  counted = omega arith;
}
shadow_says m thread (Set key value) s queue tail h = (refl, refl)
