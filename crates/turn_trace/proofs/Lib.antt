pub mod Recorded
pub mod Effects
pub mod Going
pub mod TextWords
