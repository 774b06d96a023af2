pub mod OrderLemmas
pub mod PointLemmas
pub mod LedgerLemmas
