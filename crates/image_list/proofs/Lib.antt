pub mod Rows
pub mod EachWord
