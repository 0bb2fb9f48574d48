pub mod Counting
pub mod Counts
pub mod Expanding
pub mod ForAbove
pub mod Grouping
pub mod Interchanges
pub mod Pushing
pub mod Worked
