pub mod Fronts
pub mod Guarded
pub mod Owned
pub mod GuardedParts
pub mod GuardedPast
pub mod FirstTrap
pub mod Every
pub mod Stops
