mod AddLemmas
mod AddedLemmas
mod DecodeLemmas
mod EditLemmas
mod FlagLemmas
pub mod LengthLemmas
mod PatternLemmas
mod StateLemmas
mod StateRows
pub mod ValueLemmas
pub mod StartLemmas
pub mod LookBehindLemmas
pub mod EdgeLemmas
pub mod StartLawLemmas
pub mod ExactLemmas
pub mod DecidedLemmas
pub mod KnownStateLemmas
mod StartRows
mod StepRows
pub mod StackLemmas
pub mod ClosureLemmas
pub mod TargetLemmas
pub mod CloseAllLemmas
pub mod MatchLemmas
pub mod EachLemmas
pub mod NextLemmas
pub mod MadeLemmas
pub mod DependLemmas
pub mod CaptureLemmas
pub mod PassedLemmas
pub mod EntriesLemmas
pub mod ReadingLemmas
pub mod WalkedLemmas
pub mod ListedLemmas
pub mod StartingLemmas
pub mod StepLawLemmas
pub mod StepStateLemmas
pub mod IdsLemmas
pub mod WalkingLemmas
pub mod HaystackLemmas
pub mod SteppedLemmas
pub mod AlikeLemmas
mod PositionLemmas
pub mod ForCallers
