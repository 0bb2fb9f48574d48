pub mod Answers
pub mod Keys
pub mod Meanings
pub mod Reads
pub mod Refusals
pub mod Tables
