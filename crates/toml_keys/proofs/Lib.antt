pub mod ForAbove
pub mod LeastKey
pub mod ReadSteps
pub mod RowSteps
mod WorkedLimits
