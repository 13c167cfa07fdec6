-- What the proofs of other crates may cite of this crate, besides its definitions and its public laws.
--
-- the matcher's boundaries are those of UTF-8 mode
pub use Rattle.pattern_search.proofs.BoundaryLemmas.{same_boundary}
-- what trees define, whatever the bodies of repetitions consume: the answer by its property, and that answers lie in the span that was
-- asked for
pub use Rattle.pattern_search.proofs.ChoiceLemmas.{answer_is_loose}
pub use Rattle.pattern_search.proofs.AllMatchLemmas.{within_of}
-- spans and starts, whatever the bodies of repetitions consume; and what is found, and all that is found, if the body of every unbounded
-- repetition consumes at least one byte
pub use Rattle.pattern_search.proofs.StartLemmas.{spans_as_read, starts_as_read}
pub use Rattle.pattern_search.proofs.FindLemmas.{finds_as_read}
pub use Rattle.pattern_search.proofs.AllMatchLemmas.{all_from_start, lists_from, lists_as_read}
-- the parsed patterns, with what their trees find
pub use Rattle.pattern_search.proofs.ReadLemmas.{finds_what_is_written}
-- a pattern's bytes are parsed as one pattern
pub use Rattle.pattern_search.proofs.ReadLemmas.{same_patterns}
-- the patterns that references refer to
pub use Rattle.pattern_search.proofs.TextLemmas.{read_texts}
-- what the matcher tries at an offset, and what it finds by that
pub use Rattle.pattern_search.proofs.FindLemmas.{tried, found_is}
pub use Rattle.pattern_search.proofs.BoundaryLemmas.{may_begin}
-- if starts are alike, there is either something on both sides or nothing
pub use Rattle.pattern_search.proofs.MatchSpanLemmas.{alike_some}
