pub mod Agreeing
pub mod GuidesAgree
mod Found
mod Known
pub mod NodesAgree
pub mod RowsAgree
pub mod Walked
