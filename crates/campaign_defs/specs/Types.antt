-- The types of the code's data, re-exported so that the definitions import them from one module.
use Rattle.campaign_defs.specs.declared
pub use declared.row.{Detail.Detail, Row.Row}
