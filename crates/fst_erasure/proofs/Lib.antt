pub mod Shown
pub mod ErasureLemmas
pub mod ErasedSorts
pub mod ErasedSound
mod WorkedErasure
