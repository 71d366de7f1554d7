pub mod Answers
pub mod Endings
pub mod Guardable
pub mod Making
pub mod Streams
pub mod Texts
