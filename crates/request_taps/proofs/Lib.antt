pub mod Taps
pub mod Totals
pub mod Settled
