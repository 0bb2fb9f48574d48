pub mod Counted
pub mod NodeTables
pub mod NoTables
