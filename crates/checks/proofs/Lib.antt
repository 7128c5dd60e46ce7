pub mod AtOnce
pub mod Waits
pub mod Flags
pub mod Checks
