pub mod Trees
pub mod Lists
pub mod Compares
pub mod Made
