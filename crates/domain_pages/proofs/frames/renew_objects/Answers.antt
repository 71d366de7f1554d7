use Rattle.std.proofs.Common.{◌≡◌, ◌∙◌, ℕ, arith, replicate}
use Rattle.std.proofs.lemmas.List.{length-replicate, length-set}
use Rattle.domain_pages.proofs.Shown.{length-with_words}
use Rattle.domain_pages.proofs.Renewed.{all_numbered, more_numbered, none_numbered}
use Rattle.domain_pages.proofs.frames.renew_objects.Goals as goal

pub loop-object-init : goal.loop-object-init
loop-object-init c = rw c.write_all.ensures (
  length-with_words 7360 (replicate 832 0) c.args.frames.now (omega (arith, length-replicate {A = ℕ} 832 0)) ∙ c.requires,
  none_numbered c.args.frames.now c.requires,
)

pub loop-object-preserved : goal.loop-object-preserved
loop-object-preserved c = (
  length-set c.loop-object.frames _ _ ∙ c.loop-object.invariant.0,
  more_numbered _ _ _ c.loop-object.invariant.0 (omega arith) (omega arith) c.loop-object.invariant.1,
)

pub returns : goal.returns
returns c =
    let last : c.loop-object.object ≡ 13 = omega (arith, c.loop-object-test.false, c.loop-object.auto.object-end) in
    record { size = c.loop-object.invariant.0; objects = all_numbered c.loop-object.frames (rw last at c.loop-object.invariant.1) }
