pub mod Columns
pub mod Hindrance
pub mod Cells
pub mod Rows
