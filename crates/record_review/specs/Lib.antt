pub mod Found
pub mod Lines
pub mod Records
pub mod Reviewed
