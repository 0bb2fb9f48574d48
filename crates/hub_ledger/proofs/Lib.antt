mod Consecutive
mod Rows
mod Steps
