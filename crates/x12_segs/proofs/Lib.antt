pub mod CutLemmas
pub mod FirstLemmas
pub mod ForAbove
pub mod KindLemmas
pub mod OrderLemmas
pub mod PartLemmas
pub mod RunLemmas
pub mod SegLemmas
mod WorkedSpans
pub mod ShortIds
