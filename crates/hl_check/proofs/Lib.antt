mod Knowing
mod Viewing
mod Walking
mod Faulty
mod Keyed
pub mod ForAbove
pub mod Whole
mod NoneFound
mod Worked
mod Levelled
mod Naming
