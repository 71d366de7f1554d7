-- The types of the code's data, re-exported so that the definitions import them from one module.
use Rattle.plan_defs.specs.declared
pub use declared.plan.{Plan.Plan, Strikes.Strikes}
