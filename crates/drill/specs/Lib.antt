pub mod Digest
pub mod Drilling
pub mod Finishing
pub mod Printed
pub mod Runs
pub mod Streams
