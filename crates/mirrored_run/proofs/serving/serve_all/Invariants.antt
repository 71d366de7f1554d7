use Rattle.std.proofs.Common.{◌≡◌, false, map, take}
use Rattle.mirror_block.specs.Mirrors.{IsMirror}
use Rattle.mirrored_run.specs.Serving.{AreServedBy}
use Rattle.mirrored_run.proofs.serving.serve_all.Given as goal

abbrev pub invariant-loop-op : goal.invariant-loop-op
invariant-loop-op g l = record {
  served : AreServedBy g.D.DeskLike.spec l.initial.mirror (map (λ o. o.1) (take l.op-index l.ops)) l.answers l.mirror;
  mirror : IsMirror g.D.DeskLike.spec l.mirror;
  goes : l.mirror.stopped ≡ false;
}
