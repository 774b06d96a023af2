pub mod ExampleLemmas
pub mod HeldLemmas
pub mod LinearLemmas
pub mod MapLemmas
