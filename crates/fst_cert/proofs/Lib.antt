pub mod EquationTruths
pub mod RowTruths
pub mod ProofTruths
pub mod SatisfiedLemmas
pub mod WorkedProofs
pub mod RuleLemmas
