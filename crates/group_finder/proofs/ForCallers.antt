-- What the proofs of other crates may cite of this crate, besides its definitions.
--
-- the slots of a match by their numbers: after the two of the whole match, what the matcher wrote last
pub use Rattle.group_finder.proofs.SlotLemmas.{slot_after_ends, never_written}
-- a match writes to the slots of the pattern's groups alone
pub use Rattle.group_finder.proofs.WriteLemmas.{writes_within}
