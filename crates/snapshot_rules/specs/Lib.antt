pub mod Winner
pub mod Verdict
