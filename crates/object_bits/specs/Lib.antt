pub mod Bits
pub mod Run
pub mod Allowed
pub mod Claims
pub mod Example
