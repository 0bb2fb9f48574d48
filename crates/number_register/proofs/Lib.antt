mod Comparing
mod Earlier
mod Families
mod Fill
pub mod FirstKeys
mod Firsts
pub mod ForAbove
mod Fullness
mod Holding
mod Once
mod Ordering
mod Places
mod Putting
mod Runs
mod Slotting
mod Standing
mod Uses
