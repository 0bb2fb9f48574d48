pub mod Html
pub mod Laws
