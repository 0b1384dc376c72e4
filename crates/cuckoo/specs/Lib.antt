pub mod Homes
pub mod Layout
