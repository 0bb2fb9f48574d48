pub mod Apart
pub mod FirstRow
pub mod ForAbove
pub mod Lines
pub mod Marks
pub mod Naming
pub mod Sending
pub mod Sounding
pub mod Tabling
pub mod Telling
pub mod Twins
mod Worked
mod WorkedFiles
mod WorkedSetup
