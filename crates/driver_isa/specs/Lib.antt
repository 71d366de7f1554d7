pub mod Decoding
pub mod Entries
pub mod Faults
pub mod Fields
pub mod OneWord
pub mod Runs
pub mod Steps
pub mod Turns
