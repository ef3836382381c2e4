pub mod PathTables
pub mod TableLemmas
mod LatticeLemmas
