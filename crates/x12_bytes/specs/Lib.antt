pub mod Bytes
pub mod FieldRow
pub mod Header
pub mod HeaderTest
pub mod Spaces
