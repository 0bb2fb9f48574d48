mod Last
mod Nights
mod Reviewing
mod Zips
