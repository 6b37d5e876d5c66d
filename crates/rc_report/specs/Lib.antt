pub mod Given
pub mod Report
pub mod Stamps
pub mod Totals
