mod Asking
mod Gathering
mod Joining
