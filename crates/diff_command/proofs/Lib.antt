mod CommandLine
mod Reporting
