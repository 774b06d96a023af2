pub mod Slot
pub mod Write
pub mod Run
pub mod Allowed
pub mod Since
pub mod Claims
pub mod Example
