pub mod Forests
pub mod Props
