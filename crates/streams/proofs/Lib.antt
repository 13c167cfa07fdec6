pub mod StreamLemmas
pub mod ErrorLemmas
pub mod TagLemmas
pub mod ReadLemmas
pub mod StepLemmas
pub mod FeedLemmas
pub mod PieceLemmas
pub mod CallLemmas
pub mod OverlapLemmas
mod LineLemmas
mod LineCallLemmas
mod LineLawLemmas
mod CapacityLemmas
