pub mod Counts
pub mod Heights
pub mod Paths
pub mod Pools
pub mod Looks
pub mod Rows
pub mod Worked
