pub mod Soundness
pub mod ChangeLemmas
pub mod EventLemmas
pub mod BitLemmas
