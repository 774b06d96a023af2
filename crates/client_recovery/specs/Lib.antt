pub mod Progresses
pub mod Causes
