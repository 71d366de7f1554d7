pub mod DeedCases
