mod Building
mod Giving
mod Mapping
mod Refusing
mod Running
