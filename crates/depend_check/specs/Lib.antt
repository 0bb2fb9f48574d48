pub mod Standing
pub mod Dependencies
pub mod Kept
pub mod Viewed
pub mod Found
pub mod Uses
