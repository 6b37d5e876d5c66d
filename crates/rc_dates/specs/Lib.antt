pub mod Dates
pub mod Stamp
