pub mod Begun
pub mod Faults
pub mod Files
pub mod Made
pub mod Numbers
pub mod Stopped
pub mod Tonight
