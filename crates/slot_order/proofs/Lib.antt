pub mod FnvLemmas
pub mod ListLemmas
pub mod SlotLemmas
pub mod OrderLemmas
