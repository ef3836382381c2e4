pub mod KindSets
pub mod Complete
pub mod Sound
pub mod Bounded
pub mod Claims
pub mod Cuts
