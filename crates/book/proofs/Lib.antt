pub mod Obeying
pub mod Summing
pub mod Running
