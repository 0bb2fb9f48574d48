pub mod CommandLine
pub mod Opened
pub mod Refusing
pub mod Telling
