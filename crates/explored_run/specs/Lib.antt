pub mod Alike
pub mod Sums
