pub mod ClassLemmas
mod SelectingLemmas
mod SureLemmas
pub mod FirstLemmas
pub mod GivenLemmas
pub mod SmartLemmas
