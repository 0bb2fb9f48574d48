pub mod Passing
mod Zips
