pub mod ListLemmas
pub mod VariantLemmas
