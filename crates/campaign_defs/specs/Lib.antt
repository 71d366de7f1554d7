pub mod Types
pub mod Members
pub mod Rows
pub mod TableText
