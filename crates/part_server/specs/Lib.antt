pub mod Answers
pub mod Desk
pub mod Entries
pub mod Turns
