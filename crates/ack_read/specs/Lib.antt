pub mod Kinds
pub mod Reading
pub mod Responses
pub mod Ta1s
pub mod Told
pub mod Words
