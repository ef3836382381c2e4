pub mod Plain
pub mod Sums
pub mod Turns
pub mod Exact
