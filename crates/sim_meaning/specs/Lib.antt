pub mod Driver
pub mod Counts
pub mod Told
pub mod Summary
pub mod Examples
