pub mod OrdersOnLiterals
