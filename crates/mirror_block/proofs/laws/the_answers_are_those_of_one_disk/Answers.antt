use Rattle.mirror_block.proofs.OneDisk.{one_disk_serves}
use Rattle.mirror_block.proofs.laws.the_answers_are_those_of_one_disk.Goals as goal

pub returns : goal.returns
returns g c = one_disk_serves g.D.DeskLike.spec
