pub mod Stops
pub mod TurnsPast
