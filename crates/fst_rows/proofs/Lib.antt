pub mod CombinedLemmas
pub mod RiseLemmas
pub mod ExtensionLemmas
pub mod DivisorLemmas
pub mod MergeLemmas
pub mod ExactLemmas
