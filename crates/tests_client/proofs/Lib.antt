pub mod TextsToldLemmas
pub mod ToldLemmas
