use Rattle.mirror_block.proofs.NewMirror.{new_is_mirror}
use Rattle.mirror_block.proofs.mirror.Mirror.new.Goals as goal

pub returns-clause-mirror : goal.returns-clause-mirror
returns-clause-mirror g c =
    new_is_mirror g.D.DeskLike.spec c.args.left.now c.args.right.now (g.D.DeskLike.view c.args.left_seat) (g.D.DeskLike.view c.args.right_seat) c.args.blocks c.requires.left c.requires.right
