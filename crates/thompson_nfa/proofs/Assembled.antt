-- What the contract says about the finished automaton, one field after the other.

pub mod AssembledSpans
pub mod AssembledOrders
pub mod AssembledReturns
pub mod AssembledDrafts
pub mod AssembledLooks
pub mod AssembledStarts
pub mod AssembledTries
pub mod AssembledEmpty
pub mod AssembledCaptures
pub mod AssembledCompiled
