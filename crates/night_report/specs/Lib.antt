pub mod Adding
pub mod AreClean
pub mod Clean
pub mod Lines
pub mod Report
pub mod Room
pub mod Told
