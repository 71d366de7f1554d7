pub mod Contexts
pub mod Loans
pub mod Opening
