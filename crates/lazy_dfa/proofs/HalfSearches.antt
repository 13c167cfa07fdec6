-- Half searches as functions of values: what scans find, what they depend on, and restarts.

pub mod TurnLemmas
pub mod PassQuitLemmas
pub mod LastLemmas
pub mod BothKindsLemmas
pub mod PassLemmas
pub mod NearestLemmas
pub mod AlikeLemmas
pub mod RestartLemmas
pub mod NearbyLemmas
pub mod ScanLemmas
pub mod AnewLemmas
pub mod ReachLemmas
pub mod IntervalLemmas
pub mod IntervalReachLemmas
pub mod ReadingLemmas
pub mod FoundLemmas
pub mod CountLemmas
pub mod CountedLemmas
pub mod ScanRows
pub mod HasReachLemmas
