pub mod ListLemmas
pub mod ClassLemmas
pub mod StandLemmas
pub mod RequiredLemmas
pub mod SearchLemmas
pub mod PairLemmas
