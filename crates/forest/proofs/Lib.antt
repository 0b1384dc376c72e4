pub mod Shares
pub mod Alters
pub mod Plants
pub mod Walks
pub mod Rebuilds
pub mod Middles
pub mod Unions
pub mod Fresh
