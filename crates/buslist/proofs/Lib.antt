pub mod Choice
pub mod Walk
pub mod Accept
pub mod Joining
pub mod Parts
pub mod Encode
