mod EscapeLemmas
mod Letters
pub mod ReadValues
pub mod Rows
