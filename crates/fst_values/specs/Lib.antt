pub mod Tokens
pub mod Texts
pub mod Reading
pub mod Printing
