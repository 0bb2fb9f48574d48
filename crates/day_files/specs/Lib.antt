pub mod Again
pub mod Lines
pub mod Listing
pub mod Members
