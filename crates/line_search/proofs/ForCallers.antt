-- What the proofs of other crates may cite of this crate, besides its definitions and public functions.
-- where the first line feed is
pub use Rattle.line_search.proofs.FeedPlaceLemmas.{feed_first, first_at, first_within, is_feed, one_more, some_at, starts_behind}
-- bytes before the start of a line are whole lines
pub use Rattle.line_search.proofs.LineCutLemmas.{before_start}
-- the spans of a line, one after the other
pub use Rattle.pattern_fallback.proofs.ForCallers.{spans_of_matches}
