pub mod Journals
pub mod Reports
pub mod Statuses
pub mod Sums
