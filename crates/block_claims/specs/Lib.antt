pub mod Claims
pub mod Run
pub mod Allowed
pub mod Holds
pub mod Example
