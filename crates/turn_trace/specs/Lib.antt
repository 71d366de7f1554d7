pub mod Turns
pub mod Bursts
pub mod Lines
pub mod Retelling
pub mod Effects
