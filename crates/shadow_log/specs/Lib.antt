pub mod Indices
pub mod Stopped
