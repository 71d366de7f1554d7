pub mod BurstTurns
pub mod DeviceClasses
pub mod Padded
pub mod MachineCases
pub mod BurstKeeps
pub mod BurstClasses
mod Setting
pub mod Instructions
pub mod Words
