pub mod IndexLemmas
pub mod PlaceLemmas
pub mod StateLemmas
pub mod TestLemmas
