pub mod Archive
pub mod Asked
pub mod CommandLine
pub mod Lines
pub mod Program
pub mod Refusal
