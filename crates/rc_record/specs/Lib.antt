pub mod Codes
pub mod Fields
pub mod Grammar
pub mod Answers
pub mod Rooms
pub mod Spelling
pub mod Moments
pub mod Writing
