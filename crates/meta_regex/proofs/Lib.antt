mod AnchoredLemmas
mod FallbackLemmas
mod FoundLemmas
mod FirstByteLemmas
pub mod ForCallers
pub mod ListLemmas
mod LoopLemmas
pub mod NextLemmas
mod OrderLemmas
mod RoundLemmas
mod RunLemmas
mod CacheLemmas
mod CharLemmas
mod PartLemmas
mod SplittingLemmas
mod SequenceLemmas
mod WayLemmas
mod RunAnswerLemmas
mod ThreadLemmas
mod WordlessLemmas
mod StartLemmas
