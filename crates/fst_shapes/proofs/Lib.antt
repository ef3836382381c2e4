pub mod PlainForms
pub mod ArgumentLemmas
pub mod BuildingLemmas
pub mod ShapeLemmas
