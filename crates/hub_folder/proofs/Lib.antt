pub mod ForAbove
pub mod Zips
