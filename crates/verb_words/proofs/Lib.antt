pub mod PlaceLemmas
pub mod WordsLemmas
pub mod AppliedLemmas
pub mod PagesLemmas
