pub mod Envelopes
pub mod ForAbove
pub mod Headers
pub mod Reaches
pub mod Segments
pub mod Summaries
