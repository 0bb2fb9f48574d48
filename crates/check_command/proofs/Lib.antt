pub mod Behind
pub mod CommandLine
pub mod Counting
pub mod Reading
pub mod GivenBytes
pub mod Telling
pub mod WarningLines
