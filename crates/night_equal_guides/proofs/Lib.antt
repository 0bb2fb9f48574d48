pub mod Elements
pub mod Entries
pub mod ForAbove
pub mod Guides
pub mod Nodes
pub mod Slots
pub mod Steps
pub mod Tokens
