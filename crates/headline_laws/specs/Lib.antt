pub mod Restart
pub mod GivenUp
pub mod Recoveries
pub mod Durable
pub mod Headline
