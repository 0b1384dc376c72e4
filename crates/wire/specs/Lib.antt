pub mod Eights
pub mod Records
pub mod Commands
pub mod Reading
pub mod Replies
