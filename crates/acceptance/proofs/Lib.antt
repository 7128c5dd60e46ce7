mod Chains
pub mod Causes
