pub mod Rising
pub mod Plain
pub mod Firsts
pub mod Faults
