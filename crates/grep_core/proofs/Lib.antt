mod BlockLemmas
mod CourseLemmas
pub mod ForCallers
mod HeadingLemmas
mod HeldLemmas
mod JoinLemmas
mod MarkLemmas
mod NeededLemmas
mod NumberLemmas
mod PassLemmas
mod PreviewLemmas
mod ReportRows
mod ReturnLemmas
mod RunLemmas
mod SeenLemmas
mod StepLemmas
pub mod TellingLemmas
mod TextLemmas
mod WholeLemmas
pub mod WriteLemmas
mod LongLineLemmas
mod PieceLemmas
