mod Appending
mod CommandLine
mod Keeping
mod Telling
