pub mod States
pub mod Runs
pub mod Law
