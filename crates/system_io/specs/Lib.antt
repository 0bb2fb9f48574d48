pub mod Outbox
pub mod Paths
pub mod Reader
pub mod Words
