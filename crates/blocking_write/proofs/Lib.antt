pub mod Stops
pub mod Bytes
