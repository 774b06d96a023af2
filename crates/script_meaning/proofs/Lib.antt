pub mod CountLemmas
pub mod ExampleLemmas
pub mod RunLemmas
