pub mod Goodness
pub mod FunctionSentences
pub mod Unfolding
