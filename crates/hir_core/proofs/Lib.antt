pub mod WellFormedLemmas
pub mod Utf8Lemmas
pub mod PartLemmas
mod Rows
mod SequenceRows
pub mod SequenceCountLemmas
pub mod SequenceSteps
pub mod HasLemmas
pub mod SpellingLemmas
pub mod SpanLemmas
pub mod MinimumLenLemmas
pub mod PreferredEndsLemmas
pub mod RepetitionLemmas
pub mod MaximumLenLemmas
pub mod LookFactLemmas
pub mod LooksUsedLemmas
pub mod ValidSpanLemmas
pub mod SequenceLemmas
pub mod SequenceTreeLemmas
pub mod KeptLemmas
pub mod CutLemmas
pub mod BoundedSpanLemmas
pub mod LocalLookLemmas
pub mod TwoTextsLemmas
pub mod EmptyLemmas
pub mod BackwardLemmas
pub mod ForCallers
