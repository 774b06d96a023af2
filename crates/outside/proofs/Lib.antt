pub mod AppendedLemmas
pub mod FaultsLemmas
pub mod MemoryLemmas
