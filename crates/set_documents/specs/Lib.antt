pub mod Documents
pub mod Given
