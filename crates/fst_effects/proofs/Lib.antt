mod Examples
pub mod PlainLemmas
mod ScopeLemmas
mod WantLemmas
mod FaultLemmas
mod GivenLemmas
mod PrimitiveLemmas
pub mod NodePlaces
mod RowLemmas
pub mod PatternLemmas
mod CheckLemmas
mod CoreLemmas
pub mod WrittenLemmas
mod ShapeLemmas
mod GivenTextLemmas
mod OpenLemmas
mod CheckTextLemmas
mod CoreTextLemmas
mod HeaderLemmas
mod DefinitionLemmas
