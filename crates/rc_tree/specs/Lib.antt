pub mod Attr
pub mod Codes
pub mod Name
pub mod Path
pub mod Spelled
pub mod Tree
