pub mod NameText
pub mod Options
