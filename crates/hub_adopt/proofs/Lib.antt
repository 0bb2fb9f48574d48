mod Adopting
mod Comparing
mod CommandLine
mod Numbering
mod Telling
