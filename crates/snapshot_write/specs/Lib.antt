pub mod Bound
pub mod Causes
pub mod Phases
pub mod States
