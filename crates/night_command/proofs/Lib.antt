pub mod CommandLine
pub mod Ending
pub mod Failing
pub mod Files
pub mod ForAbove
pub mod Given
pub mod OneSetup
pub mod Opening
pub mod Refusing
pub mod Running
pub mod SettingUp
pub mod Shared
mod WorkedWords
pub mod Sizes
