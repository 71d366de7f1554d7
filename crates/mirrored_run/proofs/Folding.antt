-- Over all exchanges of a mirror, the rule uses all answers in both journals and gives the mirror's answers.
use Rattle.std.proofs.Common.{◌≡◌, ℕ, suc, Some, List, [], ◌∷◌, ◌++◌, length, refl, sym, ap, subst, ◌∙◌, arith}
use Rattle.std.specs.Prelude.{option_and_then}
use Rattle.nook_data.specs.declared.calls.Answer.{Answer}
use Rattle.nook_data.specs.declared.calls.Op.{Op}
use Rattle.nook_data.specs.declared.mirror.MirrorAnswer.{MirrorAnswer}
use Rattle.nook_data.specs.declared.scenario.Scenario.{Scenario}
use Rattle.nook_data.specs.declared.steps.Event.{Event}
use Rattle.mirror_block.specs.Rule.{MirrorStep, Presence, answered_first, both_present, mirrored}
use Rattle.mirror_block.specs.Sides.{Invocation, answers_given, invocations}
use Rattle.mirrored_run.specs.Exchanges.{AreExchanges, Exchange, IsAsking, answers_of, left_events, ops_of, right_events}
use Rattle.mirrored_run.specs.Mirrors.{IsMirrorRun, mirror_blocks, mirror_ops}
use Rattle.mirrored_run.proofs.Adding.{AllAnswered, answered_parts, answers_fewer, given_parts, same_given}
use Rattle.mirrored_run.proofs.Stepping.{step_more}

-- a side that was asked once, and answered, has no call without an answer
asking_answered : (o : Op) (more : List Event) (answers : List Answer) → answers_given more ≡ answers → IsAsking o more answers → AllAnswered more
asking_answered o more [] e h = subst AllAnswered (sym h) refl
asking_answered o more (a ∷ answers) e h =
    let few = answers_fewer more in
    let one : length (invocations more) ≡ 1 = ap (λ (l : List Invocation). length l) h.1 in
    let long : length (answers_given more) ≡ suc (length answers) = ap (λ (l : List Answer). length l) e in
    omega arith

record Folds (blocks : ℕ) (before : Presence) (xs : List Exchange) (after : Presence) : Type 0 where
  left_all : AllAnswered (left_events xs)
  right_all : AllAnswered (right_events xs)
  rule : mirrored blocks before (ops_of xs) (answers_given (left_events xs)) (answers_given (right_events xs))
      ≡ Some (record { present = after; answers = answers_of xs })

folds : (blocks : ℕ) (before : Presence) (xs : List Exchange) (after : Presence) → AreExchanges blocks before xs after → Folds blocks before xs after
folds blocks before [] after h = record { left_all = refl; right_all = refl; rule = ap (λ (p : Presence). Some (record { present = p; answers = [] })) (sym h) }
folds blocks before (x ∷ xs) after h =
    let rest = folds blocks h.0 xs after h.2 in
    let left_own = asking_answered x.op x.left (answers_given x.left) refl h.1.left in
    let right_own = asking_answered x.op x.right (answers_given x.right) refl h.1.right in
    let lefts : List Answer = answers_given x.left ++ answers_given (left_events xs) in
    record {
      left_all = answered_parts x.left (left_events xs) left_own rest.left_all;
      right_all = answered_parts x.right (right_events xs) right_own rest.right_all;
      rule = ap (λ (ls : List Answer). mirrored blocks before (x.op ∷ ops_of xs) ls (answers_given (x.right ++ right_events xs)))
          (given_parts x.left (left_events xs) left_own)
          ∙ ap (λ (rs : List Answer). mirrored blocks before (x.op ∷ ops_of xs) lefts rs) (given_parts x.right (right_events xs) right_own)
          ∙ ap (option_and_then (λ (s : MirrorStep). option_and_then (answered_first s.outcome.answer) (mirrored blocks s.outcome.present (ops_of xs) s.left s.right)))
          (step_more blocks before x.op (answers_given x.left) (answers_given x.right) (answers_given (left_events xs)) (answers_given (right_events xs))
          (record { present = h.0; answer = x.answer }) h.1.step)
          ∙ ap (option_and_then (answered_first x.answer)) rest.rule;
    }

pub run_folds : (scenario : Scenario) (left right : List Event) (answers : List MirrorAnswer) → IsMirrorRun scenario left right answers
    → (p : Presence) × (mirrored (mirror_blocks scenario) both_present (mirror_ops scenario) (answers_given left) (answers_given right)
    ≡ Some (record { present = p; answers = answers }))
run_folds scenario left right answers h =
    let f = folds (mirror_blocks scenario) both_present h.exchanges h.present h.asked in (
      h.present,
      ap (λ (ops : List Op). mirrored (mirror_blocks scenario) both_present ops (answers_given left) (answers_given right)) (sym h.ops)
          ∙ ap (λ (ls : List Answer). mirrored (mirror_blocks scenario) both_present (ops_of h.exchanges) ls (answers_given right))
          (same_given (left_events h.exchanges) left f.left_all h.left_goes_on)
          ∙ ap (λ (rs : List Answer). mirrored (mirror_blocks scenario) both_present (ops_of h.exchanges) (answers_given (left_events h.exchanges)) rs)
          (same_given (right_events h.exchanges) right f.right_all h.right_goes_on)
          ∙ f.rule ∙ ap (λ (reported : List MirrorAnswer). Some (record { present = h.present; answers = reported })) h.answers_are,
    )
