mod Objects
pub mod Heard
