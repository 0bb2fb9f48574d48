pub mod ForAbove
pub mod Indexed
pub mod Fitting
pub mod Walking
pub mod Giving
pub mod Finding
pub mod Passing
pub mod Numbered
mod Rounds
mod Slots
mod Collecting
pub mod Standing
pub mod Leading
pub mod Seated
mod WithPlaces
mod WorkedSegments
