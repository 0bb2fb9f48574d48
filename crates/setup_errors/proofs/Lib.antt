pub mod FirstPlaces
pub mod FittingBoth
pub mod Looked
pub mod Numbers
pub mod Texts
mod WorkedAlike
