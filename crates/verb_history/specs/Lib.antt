pub mod Moments
pub mod Points
