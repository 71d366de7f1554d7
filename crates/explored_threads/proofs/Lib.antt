pub mod ThreadRows
