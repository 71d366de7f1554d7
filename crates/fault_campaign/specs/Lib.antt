pub mod Members
pub mod Outcomes
pub mod NumberedRows
pub mod Given
pub mod Bases
pub mod Plain
pub mod Known
