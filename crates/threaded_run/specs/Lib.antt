pub mod Leaving
pub mod Others
pub mod Threaded
pub mod Unheard
