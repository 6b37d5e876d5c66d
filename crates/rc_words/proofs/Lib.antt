pub mod Knowing
pub mod Numbers
pub mod Readings
pub mod Refusing
