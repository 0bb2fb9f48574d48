mod Rows
pub mod ForAbove
pub mod Testing
mod WorkedLayout
