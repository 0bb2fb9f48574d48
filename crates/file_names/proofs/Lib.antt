pub mod Marks
pub mod Plain
pub mod Texts
