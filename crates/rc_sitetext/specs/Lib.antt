pub mod Drafts
pub mod Faults
pub mod Lines
pub mod Reading
pub mod SiteText
pub mod Writing
