pub mod ForAbove
pub mod IdLens
pub mod Gathered
pub mod PartSteps
pub mod Guesses
mod Worked
