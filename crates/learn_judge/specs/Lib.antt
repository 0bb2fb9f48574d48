pub mod Indexed
pub mod Samples
