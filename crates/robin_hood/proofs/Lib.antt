pub mod Rings
pub mod Walks
pub mod Carry
pub mod Holes
pub mod Shifts
