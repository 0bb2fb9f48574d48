mod Adding
mod Checking
mod Clean
mod WalkedSets
pub mod Crossing
mod Enveloping
mod Errors
mod Keyed
mod Meeting
mod NoCodes
mod NoFaults
pub mod ForAbove
pub mod Once
mod Rising
mod Spans
mod Told
pub mod Verdicts
mod Worked
mod WorkedRules
mod WorkedSets
mod WorkedVerdicts
pub mod Whole
