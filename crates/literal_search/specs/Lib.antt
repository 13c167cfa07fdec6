pub mod Literals
pub mod Required
pub mod Searches
