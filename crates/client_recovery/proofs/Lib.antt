pub mod ByteLemmas
pub mod CauseLemmas
pub mod EndLemmas
pub mod HeldLemmas
pub mod RefusedLemmas
pub mod TurnLemmas
pub mod TestLemmas
