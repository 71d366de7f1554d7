pub mod Decoding
pub mod Frames
pub mod Packed
