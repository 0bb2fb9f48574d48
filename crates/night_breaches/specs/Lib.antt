pub mod Breaches
pub mod Broken
pub mod Deliveries
pub mod Known
pub mod Sound
