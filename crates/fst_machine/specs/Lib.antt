pub mod Memories
pub mod Stops
pub mod Turns
pub mod Arms
pub mod States
pub mod CodeRuns
pub mod Answering
