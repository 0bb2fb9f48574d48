pub mod ForAbove
pub mod SoundPlaces
mod Keeping
mod Lent
mod Odd
mod Telling
mod Erring
mod Slotting
mod Ending
mod Taking
mod Seeing
pub mod Apart
mod Keyed
