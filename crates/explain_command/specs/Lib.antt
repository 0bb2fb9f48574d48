pub mod CommandLine
pub mod Ends
pub mod Failure
pub mod Outcome
pub mod Reports
