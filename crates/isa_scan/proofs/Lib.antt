pub mod ForAbove
pub mod HeadLemmas
pub mod Worked
