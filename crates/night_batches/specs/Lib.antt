pub mod ByPlace
pub mod Night
pub mod Writing
