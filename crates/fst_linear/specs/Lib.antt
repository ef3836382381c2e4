pub mod Values
pub mod Refutations
pub mod Steps
pub mod Derivations
pub mod Following
pub mod Living
pub mod Lifts
pub mod Answered
