pub mod Cuts
pub mod Places
pub mod Served
pub mod Holders
