pub mod Clients
pub mod Divisions
pub mod Kept
pub mod NamedUnits
pub mod Returns
pub mod Seen
