pub mod AskedLemmas
pub mod SealLemmas
pub mod StateLemmas
