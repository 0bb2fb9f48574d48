pub mod Again
pub mod CommandLine
pub mod Export
pub mod Failure
pub mod Outcome
pub mod Page
pub mod Record
pub mod Tables
