pub mod Failing
pub mod Named
pub mod Streams
