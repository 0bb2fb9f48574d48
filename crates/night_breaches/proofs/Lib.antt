mod Broken
mod GoingOn
mod Knowing
mod Nothing
mod Steps
