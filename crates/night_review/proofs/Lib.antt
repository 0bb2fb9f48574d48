mod Counting
mod GoingOn
mod Last
