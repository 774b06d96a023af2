pub mod Asked
pub mod Settlings
