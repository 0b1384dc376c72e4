pub mod Orders
pub mod Links
pub mod Props
