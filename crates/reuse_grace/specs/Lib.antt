pub mod Stock
pub mod Allowed
pub mod Claims
pub mod Example
