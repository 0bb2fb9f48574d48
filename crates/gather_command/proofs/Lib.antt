mod CommandLine
mod Joined
pub mod Members
