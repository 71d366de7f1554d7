pub mod Ends
pub mod Hired
pub mod Order
pub mod Steps
pub mod Workers
pub mod Works
