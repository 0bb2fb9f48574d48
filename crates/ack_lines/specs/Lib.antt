pub mod Lines
pub mod Reported
pub mod Shown
pub mod Worded
pub mod Words
