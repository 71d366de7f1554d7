pub mod OpenCalls
pub mod Stopped
