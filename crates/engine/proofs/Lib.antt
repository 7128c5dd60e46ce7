pub mod RunLaws
pub mod Plan
pub mod Goes
pub mod Received
pub mod Result
