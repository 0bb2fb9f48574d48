pub mod Carried
pub mod Crew
pub mod MovedAnswers
pub mod MovedSets
pub mod Reading
pub mod Stopped
pub mod UpTo
pub mod Within
