pub mod BlockWordLemmas
