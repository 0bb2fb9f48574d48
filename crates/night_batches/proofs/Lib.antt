pub mod Crossing
pub mod Empty
pub mod ForAbove
pub mod Joining
pub mod Sides
pub mod Starting
