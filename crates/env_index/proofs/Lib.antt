pub mod ByHeads
pub mod Derived
pub mod Each
pub mod EndingTrees
pub mod Few
pub mod Finishing
pub mod ForAbove
pub mod HeadShares
pub mod IndexPlacing
pub mod Indexing
pub mod KnownSegs
pub mod LeastEnd
pub mod Mapped
pub mod Nexting
pub mod OneChain
pub mod OneIndex
pub mod OneTree
pub mod Placing
pub mod Settling
pub mod Sharing
pub mod Spanned
pub mod Standing
pub mod Steps
pub mod Surround
pub mod Tails
pub mod Trees
pub mod Walking
mod WorkedIndexPlaces
mod WorkedMarks
pub mod WorkedNumbers
mod WorkedPlaced
mod WorkedSettled
