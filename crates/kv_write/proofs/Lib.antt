pub mod CourseLemmas
pub mod WriteLemmas
pub mod ResolveLemmas
pub mod DoneLemmas
pub mod TestLemmas
pub mod BoundLemmas
