pub mod FaultScript
pub mod Made
