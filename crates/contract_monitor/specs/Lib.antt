pub mod Calls
pub mod Judging
pub mod Keeping
pub mod Monitors
pub mod Questions
pub mod Wrong
