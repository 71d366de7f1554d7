pub mod Claims
pub mod Indexed
