pub mod Breaks
pub mod Chained
pub mod Lines
