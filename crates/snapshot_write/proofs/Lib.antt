pub mod BoundLemmas
pub mod PlaceLemmas
pub mod StateLemmas
pub mod TestLemmas
pub mod ViewLemmas
