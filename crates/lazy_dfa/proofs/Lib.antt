pub mod Automata
pub mod CacheChanges
pub mod PassedBytes
pub mod HalfSearches
pub mod Courses
pub mod OverlappingWalks
pub mod ForCallers
