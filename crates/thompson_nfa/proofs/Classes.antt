-- Fragments of classes of scalars, and the states that they share.

pub mod ScalarLemmas
pub mod ScalarBranches
pub mod SlotLemmas
pub mod SlotViews
pub mod AsciiLemmas
pub mod ScalarBytes
pub mod SuffixLemmas
pub mod SuffixSteps
pub mod SuffixRanges
pub mod SharedLemmas
pub mod StackLemmas
pub mod ReadLemmas
pub mod LimbLemmas
pub mod PathLemmas
pub mod PathEndLemmas
pub mod TurnedStrings
pub mod ScalarCountLemmas
pub mod ClassTrieLemmas
pub mod TurnedMeanings
pub mod TurnedLengths
pub mod TriePathLemmas
pub mod ShrunkLemmas
pub mod PieceLemmas
pub mod FollowLemmas
pub mod SequenceBytes
pub mod ClassBytes
