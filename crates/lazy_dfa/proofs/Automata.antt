-- Automata, their quit bytes, and how many bytes their caches are counted to need.

pub mod QuitSetLemmas
pub mod AccountingLemmas
mod AccountingRows
pub mod BuildLemmas
pub mod QuitClassLemmas
pub mod BuiltLemmas
pub mod QuitLemmas
pub mod SupportLemmas
