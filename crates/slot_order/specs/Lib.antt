pub mod Fnv
pub mod Slots
