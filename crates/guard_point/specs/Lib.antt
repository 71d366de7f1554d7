pub mod Placing
pub mod Stopping
