pub mod Front
pub mod Table
