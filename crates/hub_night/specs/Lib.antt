pub mod Day
pub mod Made
pub mod Night
