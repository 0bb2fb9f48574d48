pub mod ForAbove
pub mod Parts
pub mod Signs
