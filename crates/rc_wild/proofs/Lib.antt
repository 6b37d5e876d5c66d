mod Cases
pub mod Chars
mod Cuts
mod Folding
mod Turns
