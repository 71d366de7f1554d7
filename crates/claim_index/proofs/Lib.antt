pub mod Blocks
pub mod Claims
pub mod Firsts
pub mod Conflicts
pub mod Removals
pub mod Copied
