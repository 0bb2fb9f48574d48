pub mod Blocks
pub mod Marked
pub mod Marks
pub mod Walk
