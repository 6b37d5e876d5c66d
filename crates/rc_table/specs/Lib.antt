pub mod Codes
pub mod Columns
pub mod Rows
pub mod SideRows
