pub mod Proving
pub mod ProofSentences
pub mod Rules
