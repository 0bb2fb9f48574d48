pub mod Among
pub mod Causing
pub mod FirstRows
pub mod Growing
pub mod Naming
mod Worked
