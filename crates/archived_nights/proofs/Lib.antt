mod Archiving
mod Delivering
mod Entered
mod Leaving
mod Made
mod Naming
mod Reading
