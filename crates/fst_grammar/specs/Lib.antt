pub mod Alphabet
pub mod Grammar
pub mod Reading
pub mod Conditions
pub mod Claims
