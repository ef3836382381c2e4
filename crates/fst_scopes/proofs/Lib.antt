pub mod PlainForms
mod SortingLemmas
mod PuttingLemmas
mod TextLemmas
