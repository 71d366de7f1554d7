pub mod Answering
pub mod Claimed
pub mod Crossings
pub mod Entering
pub mod Kept
pub mod Staging
pub mod Turning
