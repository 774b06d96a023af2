pub mod PassedLemmas
pub mod ReadingLemmas
pub mod StateLemmas
pub mod TestLemmas
pub mod VerbLemmas
