use Rattle.std.proofs.Common.{◌∙◌, ap, length, List}
use Rattle.nook_data.specs.declared.scenario.PartSpec.{PartSpec}
use Rattle.mirrored_run.proofs.Whole.{served_two}
use Rattle.mirrored_run.proofs.running.run_unheard.Goals as goal

pub both-requires : goal.both-requires
both-requires g c = ap (λ (l : List PartSpec). length l) c.as_slice.ensures ∙ served_two c.args.scenario.now c.requires.served
