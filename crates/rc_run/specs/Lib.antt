pub mod Answers
pub mod Goal
pub mod Keeping
pub mod Mirroring
pub mod Outcome
pub mod Under
pub mod Words
