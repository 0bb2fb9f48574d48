pub mod Accepted
pub mod Counting
pub mod ForAbove
pub mod Looking
pub mod Partners
pub mod Routes
pub mod Setups
pub mod Texts
