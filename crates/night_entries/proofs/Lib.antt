mod Asking
pub mod BadRows
pub mod BadSums
pub mod Naming
pub mod Reading
pub mod RowKey
pub mod Same
pub mod Summing
