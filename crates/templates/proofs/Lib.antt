pub mod ReadingLemmas
pub mod TextLemmas
pub mod SlotLemmas
pub mod MatchLemmas
pub mod ForCallers
