pub mod Speed
pub mod Run
pub mod Ended
