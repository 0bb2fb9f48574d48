pub mod Archived
pub mod Files
pub mod Home
pub mod Marks
pub mod Nights
