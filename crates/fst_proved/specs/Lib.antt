pub mod ProofShows
pub mod ProvedGoals
pub mod Extensions
pub mod Branching
