pub mod Given
pub mod Steps
pub mod Leaving
pub mod LoopIds
pub mod Passed
pub mod PlacedSegments
pub mod Viewed
