pub mod Loops
pub mod Presents
pub mod Totals
