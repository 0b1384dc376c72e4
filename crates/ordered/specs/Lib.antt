pub mod Answers
pub mod Numbers
pub mod Fitness
pub mod Sorted
pub mod Kinds
pub mod Runs
pub mod Meaning
