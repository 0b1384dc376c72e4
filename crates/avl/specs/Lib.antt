pub mod Turns
pub mod Grows
pub mod Cuts
pub mod Builds
pub mod Spares
