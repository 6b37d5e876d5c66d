pub mod Acts
pub mod Decided
pub mod Filters
pub mod Matching
pub mod Releases
pub mod Scope
