pub mod Class
pub mod Codes
pub mod Goal
pub mod Items
pub mod Sides
pub mod Start
pub mod Units
