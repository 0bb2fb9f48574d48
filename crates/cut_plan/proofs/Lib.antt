pub mod ForAbove
pub mod Pieces
pub mod Steps
pub mod Whole
mod Worked
