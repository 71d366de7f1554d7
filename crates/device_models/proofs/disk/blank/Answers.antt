use Rattle.device_models.proofs.Copies.{same_words}
use Rattle.device_models.proofs.disk.blank.Goals as goal

pub returns : goal.returns
returns c = rw c.from_vec.ensures (c.in_ok-vec.ensures.items_if_clones_equal (λ copy h. same_words _ copy h.whole))
