-- The types of the code's data that the definitions use, exported again so that each is imported from one module.
use Rattle.input_defs.specs.declared
pub use declared.input.{InputFault.InputFault, PathStep.PathStep, Refusal.Refusal}
pub use declared.schedules.{ScheduleName.ScheduleName}
