-- The invariants of a cache, and what calls change in it.

pub mod ListLemmas
pub mod CacheLemmas
pub mod IsCacheLemmas
pub mod ChangeLemmas
pub mod SearchStartLemmas
pub mod StartCallLemmas
pub mod StartChangeLemmas
pub mod LinkedLemmas
pub mod StepLemmas
pub mod AddsLemmas
pub mod ChangesLemmas
pub mod ChangeLawLemmas
