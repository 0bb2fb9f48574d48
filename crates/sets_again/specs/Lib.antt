pub mod Again
pub mod Fits
pub mod Rows
pub mod Text
