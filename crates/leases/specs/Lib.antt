pub mod Plans
pub mod Stretches
pub mod Checks
pub mod Commands
