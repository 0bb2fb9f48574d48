pub mod GuideSubjects
pub mod Refused
pub mod Warnings
