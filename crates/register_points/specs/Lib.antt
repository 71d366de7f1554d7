pub mod Uses
pub mod Sources
pub mod Found
