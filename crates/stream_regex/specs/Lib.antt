pub mod StreamRegexes
pub mod Meaning
pub mod Sets
pub mod Capacities
