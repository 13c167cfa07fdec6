mod AskedLemmas
mod ColorLemmas
mod NameLemmas
mod WalkingLemmas
pub mod BinaryLemmas
pub mod OutcomeLemmas
pub mod ReportLemmas
