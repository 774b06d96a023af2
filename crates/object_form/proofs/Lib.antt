pub mod ClassLemmas
pub mod BlockLemmas
pub mod MetaLemmas
pub mod LinkLemmas
pub mod ContentLemmas
