-- Tries of ranges of bytes: what an insertion changes, and the order of their sequences.

pub mod CallLemmas
pub mod CoverLemmas
pub mod InsertLemmas
pub mod NodeCopyLemmas
pub mod NodeLemmas
pub mod SequenceOrder
pub mod TrieLemmas
pub mod WalkLemmas
pub mod EmptyString
