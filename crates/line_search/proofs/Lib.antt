mod AppendLemmas
mod BoundedLemmas
mod BoundedTreeLemmas
pub mod CandidateLemmas
mod EdgeLemmas
mod FallbackLemmas
mod FeedLemmas
pub mod FeedPlaceLemmas
mod FewerWordLemmas
pub mod ForCallers
mod FoundSpanLemmas
mod JoinedLemmas
pub mod LineCutLemmas
mod LiteralLemmas
mod LoopLemmas
pub mod MatchLemmas
mod NumberedLemmas
mod OwnLemmas
mod PartLemmas
mod PlainLemmas
mod ReplaceLemmas
mod ToldLemmas
mod WholePatternLemmas
