pub mod Standing
pub mod Packing
pub mod Pushes
pub mod Drops
