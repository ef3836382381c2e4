pub mod FormLemmas
pub mod PlainForms
pub mod WeightLemmas
pub mod InequalityLemmas
