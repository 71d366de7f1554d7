pub mod Orders
pub mod Standings
