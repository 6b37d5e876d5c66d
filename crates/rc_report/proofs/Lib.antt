pub mod Days
pub mod Found
pub mod FrontLemmas
pub mod Sums
pub mod Tenths
pub mod TextLemmas
