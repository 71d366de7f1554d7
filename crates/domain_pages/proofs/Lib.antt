pub mod Packs
pub mod Own
pub mod Rights
pub mod Shown
pub mod Texts
pub mod Decoded
pub mod Renewed
