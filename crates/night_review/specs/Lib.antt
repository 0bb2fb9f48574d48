pub mod Count
pub mod Faults
pub mod GoingOn
pub mod Nights
