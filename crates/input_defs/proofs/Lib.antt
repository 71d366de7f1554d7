pub mod ImageBack
