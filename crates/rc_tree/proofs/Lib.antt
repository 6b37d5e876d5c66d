pub mod Digits
pub mod Fronts
pub mod Keys
pub mod Parts
