mod Lists
mod Grouping
mod Knowing
mod Members
mod Asking
mod Seats
mod Loops
mod Keyed
pub mod ForAbove
pub mod Whole
mod Worked
mod WorkedKept
