pub mod Told
pub mod WalkedBody
pub mod WalkedSet
pub mod Kept
pub mod Depends
pub mod Walked
