pub mod TableLemmas
pub mod RangeLemmas
pub mod FitLemmas
pub mod AnswerLemmas
