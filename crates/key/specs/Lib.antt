pub mod Widths
pub mod Kinds
pub mod Same
pub mod Within
