pub mod AwaitedLemmas
