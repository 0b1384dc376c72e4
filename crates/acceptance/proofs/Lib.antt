pub mod Apart
pub mod Steps
pub mod Whole
pub mod Reported
