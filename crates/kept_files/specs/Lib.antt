pub mod Addressed
pub mod Addresses
pub mod Files
pub mod Laws
pub mod Sums
pub mod Taken
