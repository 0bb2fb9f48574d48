pub mod Lines
pub mod Search
