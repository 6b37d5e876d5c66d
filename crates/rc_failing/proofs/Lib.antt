pub mod Counted
pub mod Picked
