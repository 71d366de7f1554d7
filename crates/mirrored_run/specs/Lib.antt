pub mod Exchanges
pub mod Hearing
pub mod Mirrors
pub mod Serving
pub mod Unheard
