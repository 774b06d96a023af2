pub mod Courses
pub mod Writes
pub mod Resolutions
pub mod Causes
pub mod Done
pub mod Bound
