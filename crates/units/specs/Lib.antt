pub mod Time
pub mod Speed
pub mod Setup
