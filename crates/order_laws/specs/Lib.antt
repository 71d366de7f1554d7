pub mod Cases
pub mod Listed
