-- What the proofs of other crates may cite of this crate, besides its definitions and its public laws.
--
-- the tree of a pattern prefers the same ends, has the same spans, keeps names, is UTF-8 and is as high as the pattern is deep
pub use Rattle.pattern_text.proofs.TranslatedLemmas.{same_ends, same_spans, keeps_names, is_text, height_at_most}
-- its equations, one for each kind of node
pub use Rattle.pattern_text.proofs.TranslatedLemmas.{translated-Empty, translated-Literal, translated-Bytes, translated-Chars}
pub use Rattle.pattern_text.proofs.TranslatedLemmas.{translated-Look, translated-Repetition, translated-Capture}
-- parts that agree make wholes that do
pub use Rattle.pattern_text.proofs.SameEndsLemmas.{same_cat, same_alt, same_group}
pub use Rattle.pattern_text.proofs.LoopLemmas.{same_repetition}
pub use Rattle.pattern_text.proofs.SpanLemmas.{spans_cat, spans_alt, spans_group}
pub use Rattle.pattern_text.proofs.RoundLemmas.{spans_repetition}
pub use Rattle.pattern_text.proofs.ListLemmas.{same_concat, same_alternation, spans_concat, spans_alternation}
-- the same ends are the same spans if the body of every unbounded repetition consumes at least one byte; patterns of which a caller sees
-- the same have the same spans
pub use Rattle.pattern_text.proofs.SpanLemmas.{spans_of_ends, matches_along, spans_of_captures}
-- an outcome exists if a trace does
pub use Rattle.pattern_text.proofs.SpanLemmas.{some_outcome}
-- what follows at the first of several ends, if these are joined
pub use Rattle.pattern_text.proofs.SameEndsLemmas.{first_of-append, first_of-flat_map, first_of-cong}
-- what the toolchain's search finds, for a tree
pub use Rattle.pattern_text.proofs.FirstSpanLemmas.{found_first, found_none}
