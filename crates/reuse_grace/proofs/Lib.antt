pub mod Soundness
pub mod EventLemmas
pub mod GraceLemmas
pub mod ExampleLemmas
