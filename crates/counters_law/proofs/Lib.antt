pub mod Accepted
pub mod Bytes
pub mod Defining
pub mod Plain
pub mod Reading
pub mod Telling
pub mod Together
pub mod Writing
