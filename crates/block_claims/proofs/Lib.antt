pub mod Soundness
pub mod WordLemmas
pub mod EventLemmas
pub mod ClaimLemmas
