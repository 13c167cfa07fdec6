mod BuiltLemmas
mod MeaningLemmas
mod SetLemmas
mod LineMeaningLemmas
mod GrowingLemmas
