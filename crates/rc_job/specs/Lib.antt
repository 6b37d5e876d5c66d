pub mod Allowed
pub mod Deciding
pub mod Job
pub mod Settings
pub mod Values
