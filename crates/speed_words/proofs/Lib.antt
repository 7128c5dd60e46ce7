pub mod Rule
pub mod Right
