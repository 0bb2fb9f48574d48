pub mod ForAbove
pub mod NodeViews
pub mod NumberStep
pub mod Behind
pub mod NumberLaws
pub mod Keeping
pub mod RivalPairs
pub mod RivalPlaces
pub mod RivalsPaired
pub mod Among
pub mod Pairs
pub mod FitBoth
pub mod Ambiguous
pub mod Judged
pub mod Checked
mod Sound
mod Few
mod WorkedLimits
mod Coding
