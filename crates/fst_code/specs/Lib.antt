pub mod Within
pub mod Sound
pub mod Plain
