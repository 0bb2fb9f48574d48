pub mod Csv
pub mod Columns
