pub mod ForAbove
mod TextAsked
