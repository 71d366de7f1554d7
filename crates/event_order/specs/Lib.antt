pub mod Bare
pub mod Ends
pub mod Lefts
pub mod Ways
