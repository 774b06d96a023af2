pub mod Shown
pub mod Lines
pub mod Scripts
pub mod Examples
