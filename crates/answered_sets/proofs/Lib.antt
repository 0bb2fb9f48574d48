pub mod Behind
pub mod ForAbove
pub mod InSpans
pub mod Lending
pub mod Stretch
mod WorkedAnswers
