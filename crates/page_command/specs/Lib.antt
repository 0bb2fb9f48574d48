pub mod CommandLine
pub mod Failure
pub mod Folder
pub mod Outcome
pub mod Samples
