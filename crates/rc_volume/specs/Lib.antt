pub mod Faults
pub mod Frames
pub mod Images
pub mod Log
pub mod Reading
pub mod Site
pub mod Streams
pub mod Waits
