pub mod Paths
pub mod Shelf
