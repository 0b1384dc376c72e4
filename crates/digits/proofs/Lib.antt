pub mod Order
pub mod Sevens
