mod IndexRows
pub mod DecodeLemmas
pub mod Utf8Lemmas
pub mod SplitLemmas
pub mod CutLemmas
pub mod RestLemmas
pub mod ForCallers
mod Utf8Rows
pub mod MarkLemmas
pub mod ByteSetLemmas
pub mod StepLemmas
pub mod UnitLemmas
pub mod CharacterLemmas
mod CharacterRows
pub mod RisingLemmas
