-- Fragments of each kind of tree.

pub mod CaseLemmas
pub mod RoundLemmas
pub mod LeafLemmas
pub mod TakeLemmas
pub mod ExactLemmas
pub mod JoinLemmas
pub mod TurnLemmas
pub mod PartBytes
pub mod ClassLemmas
pub mod RepeatLemmas
pub mod CaptureLemmas
pub mod BranchLemmas
pub mod OptionLemmas
pub mod ConcatLemmas
pub mod CopyLemmas
pub mod AlternativeLemmas
pub mod DoesLemmas
pub mod DoesCases
