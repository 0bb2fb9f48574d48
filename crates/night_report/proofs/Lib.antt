pub mod Adding
pub mod ForAbove
mod Counting
mod Ending
mod Joined
pub mod Outcomes
mod Spacing
mod Walking
mod WorkedClean
mod WorkedLines
mod WorkedNights
mod Room
