-- What the proofs of other crates may cite of this crate, besides its definitions.
--
-- a list that is laid over another one element by element
pub use Rattle.meta_regex.proofs.ListLemmas.{none_laid, one_more_byte, all_bytes}
-- the match that follows one, and all matches, one after the other
pub use Rattle.meta_regex.proofs.NextLemmas.{next_beyond, next_later, next_none, next_there}
pub use Rattle.meta_regex.proofs.NextLemmas.{IsListedSoFar, listing_begins, listing_ends, listing_fails_behind, listing_goes_on}
pub use Rattle.meta_regex.proofs.NextLemmas.{listing_runs_out, none_first}
-- threads may share a regex, and send it to each other
pub use Rattle.meta_regex.proofs.ThreadLemmas.{regex_send, regex_sync}
