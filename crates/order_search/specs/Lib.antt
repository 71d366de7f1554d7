pub mod Moments
pub mod Ways
pub mod Ends
pub mod Found
