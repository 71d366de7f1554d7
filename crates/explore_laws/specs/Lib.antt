pub mod Present
pub mod Worklists
pub mod Held
pub mod Closing
pub mod Cases
