pub mod ForAbove
pub mod Searching
