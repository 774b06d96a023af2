pub mod Client
pub mod Run
pub mod Allowed
pub mod Claims
pub mod Example
pub mod Marks
pub mod Seen
pub mod Stocked
