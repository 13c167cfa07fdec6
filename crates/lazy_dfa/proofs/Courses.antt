-- How scans and searches go over a cache, and what they return and report.

mod LeftToldRows
mod AnewToldRows
pub mod PassEndLemmas
pub mod CourseLemmas
pub mod PointLemmas
pub mod WholePassLemmas
pub mod SpanLemmas
pub mod LingerLemmas
pub mod SpanTurnLemmas
pub mod TurnStepLemmas
pub mod DeadTurnLemmas
pub mod PassStartLemmas
pub mod RunLemmas
pub mod TurnToldLemmas
pub mod AnewToldLemmas
pub mod PassListLemmas
pub mod AnswerLemmas
pub mod SearchLemmas
pub mod SearchEndLemmas
pub mod SearchClauseLemmas
pub mod PassLoopLemmas
pub mod RoomLemmas
