pub mod Bits
pub mod Causes
pub mod Choosers
pub mod Classes
pub mod Held
pub mod Parts
pub mod Passed
