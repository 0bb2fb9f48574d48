mod Listing
mod Parting
mod Starting
mod IdNumbers
mod FirstPicks
mod SlotPicks
mod Keyed
mod LookedUp
mod IdBefore
mod Numbering
mod Tabled
mod Straying
mod Strayed
mod Counting
pub mod ForAbove
pub mod Silencing
mod Stepping
mod KnownTurns
mod KnownStarts
mod StationTurns
pub mod Crossing
