pub mod AnswerLemmas
pub mod ForCallers
mod GrownLemmas
pub mod LookLemmas
pub mod PassLemmas
pub mod ResizeLemmas
pub mod SpanLemmas
