pub mod Answers
pub mod Night
