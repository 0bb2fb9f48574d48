mod Answering
mod CommandLine
mod Putting
mod Sampling
