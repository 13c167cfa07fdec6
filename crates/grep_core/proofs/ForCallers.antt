-- What the proofs of other crates may cite of this crate, besides its definitions and public functions.
-- a finder that seeks the same
pub use Rattle.grep_core.proofs.SeenLemmas.{moved_by}
-- a report asks for no more matches than are needed
pub use Rattle.grep_core.proofs.NeededLemmas.{same_report}
-- how many lines may still be selected
pub use Rattle.grep_core.proofs.TellingLemmas.{left_none, limited_step, none_before, one_counted}
-- what was written, piece by piece
pub use Rattle.grep_core.proofs.WriteLemmas.{appends_kept, taken_before}
