pub mod ProofShown
pub mod GoalProofs
pub mod WorkedLaw
pub mod OneBranch
