pub mod Answered
pub mod Judged
pub mod Placed
