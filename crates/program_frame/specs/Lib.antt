pub mod Arguments
pub mod Matching
pub mod Mistake
