pub mod Entries
pub mod Events
pub mod Laws
pub mod Nights
