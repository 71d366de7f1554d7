use Rattle.std.proofs.Common.{◌≡◌, refl, arith}
use Rattle.std.specs.Fmt.{digits}
use Rattle.scenario_gen.proofs.generated.thread_name.Goals as goal

pub returns-in-0 : goal.returns-in-0
unfolding digits
returns-in-0 c = rw (c.known_name.ensures, c.in-0.is) refl

pub returns-in-1 : goal.returns-in-1
unfolding digits
returns-in-1 c = rw (c.known_name-in-1.ensures, c.in-1.is) refl

pub returns-in-2 : goal.returns-in-2
unfolding digits
returns-in-2 c = rw (c.known_name-in-2.ensures, c.in-2.is) refl

pub returns-in_default : goal.returns-in_default
unfolding digits
returns-in_default c = let third : c.args.number ≡ 3 = omega arith in rw (c.known_name-in_default.ensures, third) refl
