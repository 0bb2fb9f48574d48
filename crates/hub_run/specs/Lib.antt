pub mod Refusals
pub mod StreamNight
