pub mod Choice
pub mod Search
