pub mod Mask
pub mod Waiting
