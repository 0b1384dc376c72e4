pub mod Weights
pub mod Holders
pub mod Codes
