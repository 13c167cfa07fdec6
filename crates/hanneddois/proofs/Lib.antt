mod ApartSteps
mod Boxed
mod BoxedSets
mod FailureLemmas
mod HandleSteps
mod StreamHandleSteps
