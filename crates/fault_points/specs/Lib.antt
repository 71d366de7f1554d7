pub mod Bursts
pub mod Points
