pub mod Counting
pub mod Chains
pub mod Visits
pub mod Laws
pub mod Made
