pub mod Passed
pub mod Readings
pub mod Searches
pub mod States
pub mod Verbs
