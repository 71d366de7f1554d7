pub mod Own
pub mod Padded
