use Rattle.std.proofs.Common.{◌≡◌, ◌++◌, filter, take}
use Rattle.explored_run.specs.Alike.{is_given}
use Rattle.explored_run.proofs.given.add_given_acts.Given as goal

abbrev pub invariant-loop-act : goal.invariant-loop-act
invariant-loop-act l = l.given ≡ l.initial.given ++ filter (is_given l.class) (take l.act-index l.acts)
