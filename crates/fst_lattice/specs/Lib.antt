pub mod Tables
pub mod Lattices
