mod CommandLine
mod Keeping
mod Lists
mod Telling
