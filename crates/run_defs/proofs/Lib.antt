pub mod ChoicesInOrder
pub mod RunChanges
