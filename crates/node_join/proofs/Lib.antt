pub mod JoinLemmas
pub mod MaskLemmas
pub mod TargetLemmas
pub mod TestLemmas
