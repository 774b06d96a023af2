pub mod CallLemmas
pub mod CausedLemmas
pub mod KeptLemmas
pub mod PassedLemmas
pub mod PlaceLemmas
pub mod RefusalLemmas
pub mod RefusedCallLemmas
pub mod StageLemmas
pub mod TestLemmas
pub mod ToldLemmas
pub mod TurnedLemmas
pub mod ViewLemmas
mod FreshLemmas
