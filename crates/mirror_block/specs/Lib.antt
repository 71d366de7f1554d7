pub mod Disk
pub mod Mirrors
pub mod Outcomes
pub mod Rule
pub mod Sides
