pub mod ReachLemmas
pub mod BesideLemmas
pub mod LineLookLemmas
pub mod MeaningLemmas
pub mod WithinLemmas
pub mod KeptLemmas
pub mod FeedLemmas
pub mod WordlessLemmas
pub mod ForCallers
mod Rows
pub mod ListLemmas
