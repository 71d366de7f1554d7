use Rattle.std.proofs.Common.{◌∙◌, arith, rules}
use Rattle.domain_pages.proofs.Shown.{objects_begin, objects_more}
use Rattle.domain_pages.proofs.frames.opening_frames.Goals as goal

pub loop-object-init : goal.loop-object-init
loop-object-init c = rw (c.in_ok-frames.ensures.items_if_clones_equal (search rules)) objects_begin

pub loop-object-preserved : goal.loop-object-preserved
loop-object-preserved c =
    rw c.in_ok-extend_from_slice.ensures.items
    (objects_more _ _ _ _ _ (omega arith) (omega (arith, c.loop-object-test.true)) ∙ c.loop-object.invariant)
