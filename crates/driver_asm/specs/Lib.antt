pub mod Lexing
pub mod Addresses
pub mod Answers
pub mod Names
pub mod Listed
pub mod Directives
