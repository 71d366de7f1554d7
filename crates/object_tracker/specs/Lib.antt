pub mod Ordered
pub mod Tracked
