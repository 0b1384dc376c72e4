pub mod Lists
pub mod Props
