mod Changing
mod Faking
