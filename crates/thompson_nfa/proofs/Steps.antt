-- What one call of the builder changes, what it costs, and why it fails.

pub mod ByteLemmas
pub mod ByteRows
pub mod StepLemmas
pub mod GrowLemmas
pub mod OutLemmas
pub mod ProgressLemmas
pub mod ErrorLemmas
pub mod NotedLemmas
pub mod RoomLemmas
pub mod NoGroups
pub mod PlainRoom
pub mod LookLemmas
pub mod SizeLemmas
