pub mod Schedules
pub mod Simulation
pub mod References
pub mod Generated
