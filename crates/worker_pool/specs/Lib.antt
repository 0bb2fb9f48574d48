pub mod Asked
pub mod Jobs
pub mod Spans
