pub mod OneWord
pub mod Turns
pub mod Bursts
pub mod Decoding
pub mod Entries
