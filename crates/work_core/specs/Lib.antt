pub mod Complete
pub mod Core
pub mod Inside
pub mod Once
