pub mod AnswerLemmas
pub mod ClaimLemmas
pub mod EventLemmas
pub mod ExampleLemmas
pub mod RunLemmas
pub mod StandingLemmas
