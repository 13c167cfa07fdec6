-- Overlapping searches, and the patterns that match somewhere.

pub mod RestLemmas
pub mod PlaceEndLemmas
pub mod WalkEndLemmas
pub mod FoundNextLemmas
pub mod WalkGoesOnLemmas
pub mod WhichLemmas
pub mod WalkLeftLemmas
pub mod WalkCallLemmas
pub mod WalkStopLemmas
pub mod WalkBeginLemmas
pub mod WalkClauseLemmas
pub mod WhichUnitLemmas
pub mod WhichBudgetLemmas
pub mod WhichLoopLemmas
pub mod WhichToldLemmas
pub mod WalkRestLemmas
pub mod WalkPlaceLemmas
pub mod WalkTurnLemmas
pub mod WalkReadLemmas
pub mod WalkQuitLemmas
pub mod WalkToldLemmas
pub mod WalkRows
pub mod WhichChangesLemmas
