pub mod Striking
pub mod Stopping
pub mod Rounds
pub mod Ending
