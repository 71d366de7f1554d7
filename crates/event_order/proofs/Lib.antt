pub mod Bared
pub mod Heard
pub mod Held
pub mod Nexts
pub mod Ahead
pub mod SameOps
pub mod Shorter
pub mod Taken
