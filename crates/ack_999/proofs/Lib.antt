mod WorkedGroup
pub mod ForAbove
pub mod Noting
pub mod Verdicts
pub mod Parts
pub mod ReadBack
pub mod Telling
pub mod Plain
pub mod ReadableFaults
pub mod Readable
pub mod Thirds
pub mod Positions
