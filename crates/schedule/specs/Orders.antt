use Rattle.std.specs.Prelude.{drop}
use Rattle.run_defs.specs.Schedules.{Order, round, drawn, listed}
use Rattle.schedule.specs.declared.pick.Progress.{Progress}
use Rattle.schedule.specs.declared.pick.Progress.TheVariants as progress

-- the order that a schedule's state represents
abbrev pub order_of : Progress → Order
order_of (progress.Round cursor) = round cursor
order_of (progress.Drawn generator) = drawn generator
order_of (progress.Listed picks at) = listed (drop at picks)
