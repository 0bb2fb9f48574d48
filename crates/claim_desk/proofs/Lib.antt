pub mod Totals
pub mod Moves
mod WorkedSeats
