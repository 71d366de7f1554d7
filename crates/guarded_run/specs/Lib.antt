pub mod Guarded
pub mod NextStop
