pub mod Alone
pub mod Findings
pub mod Flags
pub mod FoundOut
pub mod Jobs
pub mod Keys
pub mod Pieces
