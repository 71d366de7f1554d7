pub mod Counts
pub mod Keys
pub mod Kept
pub mod Steps
