pub mod Export
pub mod Night
pub mod Table
