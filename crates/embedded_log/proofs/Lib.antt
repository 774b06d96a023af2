pub mod ChainLemmas
pub mod StateLemmas
pub mod WalkLemmas
