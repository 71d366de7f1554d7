pub mod Uses
pub mod Alike
