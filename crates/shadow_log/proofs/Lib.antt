pub mod Numbers
pub mod Replays
pub mod Changes
