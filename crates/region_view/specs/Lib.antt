pub mod Control
pub mod Epoch
pub mod Layout
pub mod Opening
pub mod Placed
pub mod Places
pub mod Sizes
