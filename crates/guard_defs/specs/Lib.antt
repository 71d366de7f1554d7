pub mod Deeds
pub mod Turns
pub mod Guard
pub mod GuardedRuns
pub mod FirstBreaks
pub mod GuardText
pub mod Every
