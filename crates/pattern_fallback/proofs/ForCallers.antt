-- What the proofs of other crates may cite of this crate, besides its definitions and public functions.
-- the spans of all matches, one after the other
pub use Rattle.pattern_fallback.proofs.SpanLemmas.{found_beyond, next_beyond, none_beyond, spans_of_matches}
-- an alternation of one pattern is that pattern; of which pattern a match is
pub use Rattle.pattern_fallback.proofs.NumberLemmas.{alone, program_of_one, IsFirstMatch, found_of_first}
