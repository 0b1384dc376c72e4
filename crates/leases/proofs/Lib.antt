pub mod Planning
pub mod Spacing
pub mod Deciding
pub mod Telling
pub mod Carrying
pub mod Counting
