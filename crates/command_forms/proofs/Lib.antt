pub mod Numerals
pub mod OneForm
