pub mod Characters
pub mod Words
pub mod Marks
pub mod Blanks
pub mod Tokens
pub mod Scans
