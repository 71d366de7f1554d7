pub mod Asked
pub mod Counted
pub mod Detailed
pub mod Showing
