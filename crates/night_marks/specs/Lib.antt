pub mod Count
pub mod Links
pub mod Order
