pub mod OneBatch
pub mod Workers
