pub mod Decoding
pub mod Lexing
pub mod Starts
