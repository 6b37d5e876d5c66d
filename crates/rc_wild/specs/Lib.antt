pub mod Pattern
pub mod PathPattern
pub mod Walk
