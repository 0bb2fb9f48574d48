mod CommandLine
mod Exporting
mod Finding
mod LastNight
mod Paging
mod Reporting
mod Telling
mod Zips
