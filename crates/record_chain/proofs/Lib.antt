mod Appended
mod Filed
mod Naming
mod Unbroken
mod Worked
