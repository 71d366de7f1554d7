pub mod Counts
pub mod HexWords
pub mod JsonText
pub mod Members
pub mod OpCounts
pub mod Rooms
pub mod ValidRead
