pub mod Hierarchy
pub mod Found
pub mod Known
pub mod Levels
pub mod Names
