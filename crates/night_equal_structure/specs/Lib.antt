pub mod Structures
pub mod UseFaults
