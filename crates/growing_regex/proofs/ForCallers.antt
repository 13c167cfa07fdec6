-- What other crates' proofs may cite of this crate's, besides its public functions.
--
-- a configuration is all that a new builder has set
pub use Rattle.growing_regex.proofs.ResizeLemmas.{set_once}
