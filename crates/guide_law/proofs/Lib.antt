pub mod Cases
pub mod ForAbove
pub mod Residual
mod Entering
mod Stepping
mod Following
mod Returning
pub mod Deciding
pub mod Gaps
pub mod Meeting
pub mod Placed
pub mod Rising
pub mod Showing
pub mod Leaving
pub mod Going
pub mod Arriving
pub mod Remaining
pub mod Members
pub mod Faulty
pub mod Keyed
pub mod Conforming
pub mod Among
pub mod Starting
pub mod Coming
pub mod Computed
pub mod Passing
pub mod Cleaning
mod WorkedGuide
mod WorkedPlacing
mod WorkedGrammar
mod Computing
mod WorkedShipment
mod WorkedCodes
