pub mod Told
pub mod Counted
pub mod Course
pub mod Keys
pub mod Pool
