-- How chains and depth-first searches go through an automaton that is being built, what they find, and what trees mean along them.

pub mod WayLemmas
pub mod LeadLemmas
pub mod ReachLemmas
pub mod HaltLemmas
pub mod FirstsLemmas
pub mod OrderLemmas
pub mod InReverseLemmas
pub mod MeantLemmas
pub mod DenoteLemmas
pub mod SameLemmas
pub mod AheadLemmas
pub mod AcceptLemmas
pub mod FindLemmas
pub mod ChoiceLemmas
pub mod TriedPlaces
pub mod TriedOrders
pub mod AnchorLemmas
pub mod ApartLemmas
pub mod DirectionLemmas
