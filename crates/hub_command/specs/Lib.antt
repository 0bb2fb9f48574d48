pub mod Asked
pub mod Changed
pub mod CommandLine
pub mod Lines
pub mod Program
pub mod Run
pub mod There
