pub mod ForAbove
pub mod Naming
pub mod Completing
pub mod Placing
pub mod Crossing
