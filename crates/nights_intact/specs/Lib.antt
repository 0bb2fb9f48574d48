pub mod Intact
