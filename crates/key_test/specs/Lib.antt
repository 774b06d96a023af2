pub mod States
pub mod Tests
