pub mod ResultLemmas
pub mod Rows
