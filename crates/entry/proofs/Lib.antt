pub mod Filters
pub mod Orders
