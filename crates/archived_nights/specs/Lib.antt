pub mod Archive
pub mod Archived
pub mod Files
