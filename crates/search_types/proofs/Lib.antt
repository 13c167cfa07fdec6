pub mod IteratorLemmas
pub mod PatternSetLemmas
pub mod ModeLemmas
pub mod AnswerLemmas
mod AnswerRows
pub mod GroupLemmas
pub mod IndexLemmas
pub mod CapturesLemmas
pub mod GroupLaws
pub mod AllAnswersLemmas
pub mod ChainLemmas
pub mod FirstLemmas
pub mod RuleLemmas
pub mod SoundLemmas
pub mod GroupLoopLemmas
pub mod ForCallers
