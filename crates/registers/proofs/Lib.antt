pub mod Laws
pub mod Steps
pub mod BitLaws
pub mod Fits
pub mod FlagOf
