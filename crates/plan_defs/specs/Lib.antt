pub mod Types
pub mod Plans
