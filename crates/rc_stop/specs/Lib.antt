pub mod Grown
pub mod Kept
pub mod KeptSite
pub mod Stopping
pub mod Stops
