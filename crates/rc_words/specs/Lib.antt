pub mod Meaning
pub mod Reader
pub mod Shown
pub mod Spelling
pub mod Values
pub mod Table
