pub mod CommandLemmas
pub mod LeaseLemmas
pub mod OfflineLemmas
pub mod OptionLemmas
pub mod ReadLemmas
pub mod WrittenLemmas
