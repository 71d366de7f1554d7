use Rattle.part_core.proofs.Ready.{attempt_low, crossable, enterable, ready}
use Rattle.part_core.proofs.state.State.step.Goals as goal

pub enter-requires : goal.enter-requires
enter-requires c = enterable c.args.self.now c.in-Enter.thread c.requires.sound (rw (← c.in-Enter.is) c.requires.enabled)

pub burst-requires-clause-crossable : goal.burst-requires-clause-crossable
burst-requires-clause-crossable c = crossable c.args.self.now c.in-Burst.context c.requires.sound (rw (← c.in-Burst.is) c.requires.enabled)

pub burst-requires-clause-attempt : goal.burst-requires-clause-attempt
burst-requires-clause-attempt c = attempt_low c.args.self.now c.in-Burst.context c.requires.sound (rw (← c.in-Burst.is) c.requires.enabled)

pub stage-requires : goal.stage-requires
stage-requires c = ready c.args.self.now c.requires.sound
