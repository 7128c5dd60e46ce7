pub mod Word
pub mod Access
pub mod Machine
pub mod State
pub mod Contract
