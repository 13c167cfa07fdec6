pub mod ForCallers
mod NumberLemmas
mod ParsedLemmas
mod ProgramLemmas
mod SpanLemmas
