pub mod Counts
pub mod Trees
pub mod Pools
pub mod Answers
pub mod Heights
pub mod Props
