pub mod CommandLine
pub mod Failure
pub mod Lines
pub mod Members
pub mod Outcome
pub mod Part
