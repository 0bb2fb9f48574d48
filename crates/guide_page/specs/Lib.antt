pub mod Conditions
pub mod Elements
pub mod Named
pub mod Nodes
pub mod Page
pub mod Rules
pub mod Tags
