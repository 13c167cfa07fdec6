-- Patterns one after the other, what comes before them, and how a compile ends.

pub mod AnyByteLemmas
pub mod StandLemmas
pub mod PatternLemmas
pub mod FurtherLemmas
pub mod UnionLemmas
pub mod UnitedLemmas
pub mod StartLemmas
pub mod AssembleLemmas
pub mod ListLemmas
pub mod RefusalLemmas
pub mod FinishLemmas
