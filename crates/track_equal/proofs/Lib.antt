pub mod Documents
pub mod Hindrances
pub mod Mailed
pub mod Ends
pub mod Heads
pub mod Rows
pub mod Tables
pub mod ForAbove
