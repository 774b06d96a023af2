pub mod Written
pub mod Turns
pub mod Dumps
