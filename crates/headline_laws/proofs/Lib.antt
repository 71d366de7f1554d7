pub mod BurstBounds
mod Fronts
mod FirstBreak
mod GivenUp
mod Limits
mod Returning
mod MediumStays
mod Durable
mod Away
mod Failing
mod Unchanged
mod Stopped
mod Restarts
pub mod Safe
