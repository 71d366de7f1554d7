pub mod OneClock
pub mod OutOfOrder
pub mod Taking
