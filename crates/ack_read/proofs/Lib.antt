pub mod Telling
mod WorkedTold
