pub mod Draws
pub mod Growing
pub mod KeptSteps
pub mod Lefts
pub mod Picks
