pub mod WroteLemmas
pub mod WholeLemmas
