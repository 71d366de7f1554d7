use Rattle.turn_trace.proofs.Effects.{made}
use Rattle.turn_trace.proofs.laws.the_shown_effects_make_what_the_burst_leaves.Goals as goal

pub returns : goal.returns
returns c = made
