mod Days
pub mod ForAbove
mod Lists
pub mod Sharing
mod Worked
