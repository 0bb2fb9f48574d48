mod CommandLine
mod Learning
