pub mod Chain
pub mod Failure
pub mod Intact
pub mod Names
pub mod Older
pub mod Papers
pub mod Programs
