pub mod Views
pub mod Listening
pub mod Causes
pub mod Changes
