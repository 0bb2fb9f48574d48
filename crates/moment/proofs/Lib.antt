pub mod Both
pub mod ForAbove
pub mod Moments
