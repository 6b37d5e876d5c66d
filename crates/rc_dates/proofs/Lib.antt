pub mod Midnights
pub mod Stamps
