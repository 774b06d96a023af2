pub mod Examples
pub mod Held
pub mod Linear
pub mod Map
pub mod Trace
