pub mod Rows
pub mod Counts
pub mod Carried
pub mod Moves
pub mod Laws
