pub mod ListLemmas
pub mod WrittenLemmas
mod LeftLemmas
mod TurnLemmas
mod TakesLemmas
mod DumpLemmas
mod LineLemmas
mod ScriptLemmas
