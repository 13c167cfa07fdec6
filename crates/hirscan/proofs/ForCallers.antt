-- What other crates' proofs may cite of this crate's, besides its public functions.
--
-- how std reads decimal digits
pub use Rattle.hirscan.proofs.WordLemmas.{digits_model}
-- what was written of some bytes, if more of them was written
pub use Rattle.hirscan.proofs.RunLemmas.{more_in_text, appends_more}
