pub mod Desks
pub mod Stamps
