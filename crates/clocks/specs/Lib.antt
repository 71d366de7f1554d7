pub mod Clocks
pub mod Times
