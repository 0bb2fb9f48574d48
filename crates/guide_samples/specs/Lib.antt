pub mod Samples
pub mod Alone
pub mod Between
