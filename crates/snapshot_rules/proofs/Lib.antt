pub mod WinnerLemmas
pub mod VerdictLemmas
