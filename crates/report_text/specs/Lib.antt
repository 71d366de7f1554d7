pub mod Answers
pub mod Whole
pub mod Writing
pub mod Mirrored
