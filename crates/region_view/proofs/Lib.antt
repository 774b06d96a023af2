pub mod ControlLemmas
pub mod FirstLemmas
pub mod LayoutLemmas
pub mod OpeningLemmas
pub mod PlacedLemmas
