pub mod Ends
pub mod Makes
pub mod Parts
pub mod Rounds
pub mod Ways
pub mod Turns
