pub mod TreeLemmas
pub mod MakeLemmas
pub mod ValueLemmas
pub mod OperandLemmas
