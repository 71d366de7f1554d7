pub mod Audit
pub mod Fitting
pub mod Lengths
