pub mod Blocks
pub mod Trace
pub mod Ideal
pub mod Contract
pub mod Losses
pub mod Licence
pub mod Isolation
