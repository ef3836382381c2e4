pub mod Table
pub mod Arguments
pub mod Answers
pub mod Opened
