pub mod ForAbove
pub mod Powers
pub mod Once
pub mod Reading
pub mod Rows
pub mod Distinct
mod WorkedLimits
mod WorkedNotes
