-- What other crates' proofs may cite of this crate's, besides its public functions.

-- ---- lists of ends, and the lists of several offsets joined
-- what one of two lists has, the joined list has
pub use Rattle.hir_core.proofs.HasLemmas.{Has-left, Has-right}
-- what the joined list has, one of the two has
pub use Rattle.hir_core.proofs.HasLemmas.{Has-append}
-- a list that has one end if a test holds, and none else
pub use Rattle.hir_core.proofs.HasLemmas.{Has-if, Has-then}
-- a list that has nothing is empty
pub use Rattle.hir_core.proofs.HasLemmas.{nil_from_none}
-- to join twice is to join once
pub use Rattle.hir_core.proofs.HasLemmas.{flat_map-flat_map}
-- functions that agree on a list's members give the same joined lists
pub use Rattle.hir_core.proofs.HasLemmas.{flat_map_same}
-- ---- what trees mean and prefer
-- the ends that a tree prefers are those that it means
pub use Rattle.hir_core.proofs.PreferredEndsLemmas.{preferred_ends_sound, preferred_ends_complete}
-- a span goes forward, and stays within the haystack
pub use Rattle.hir_core.proofs.SpanLemmas.{IsSpan-Means, span_forward, span_within}
-- if a round consumes a byte, an unbounded repetition is one more round and then itself, and to stop
pub use Rattle.hir_core.proofs.RepetitionLemmas.{repetition_more}
-- a span of a tree whose minimum length is above 0 has a byte
pub use Rattle.hir_core.proofs.MinimumLenLemmas.{reads_a_byte}
-- prefix looks hold at a span's start, suffix looks at its end
pub use Rattle.hir_core.proofs.LookFactLemmas.{prefix_sound, suffix_sound}
-- a part weighs less than the concatenation, and an alternation as much as one
pub use Rattle.hir_core.proofs.PartLemmas.{weight_in_concat, weight_of_either}
-- ---- what meaning depends on
-- a span with bytes, of a UTF-8 tree in valid UTF-8, starts and ends at boundaries
pub use Rattle.hir_core.proofs.BoundedSpanLemmas.{span_start_bounded, span_end_bounded}
-- ends depend on the looks from the start on
pub use Rattle.hir_core.proofs.LocalLookLemmas.{same_ends_from}
-- in a haystack cut at e, ends depend on the looks between the start and e, and so do the spans up to e
pub use Rattle.hir_core.proofs.LocalLookLemmas.{same_ends_within, same_spans_within}
-- a span depends on the bytes and the looks around it
pub use Rattle.hir_core.proofs.TwoTextsLemmas.{same_spans_in_both}
-- an empty span anywhere is one without bytes if each look holds
pub use Rattle.hir_core.proofs.EmptyLemmas.{empty_span}
-- ---- classes of scalars and their sequences of byte ranges
-- a member of a list of ranges is one of the first range or of the others
pub use Rattle.hir_core.proofs.SpellingLemmas.{member_cases}
-- the pieces of a range ascend
pub use Rattle.hir_core.proofs.SequenceLemmas.{rises}
-- a sequence has one to four ranges of bytes
pub use Rattle.hir_core.proofs.SequenceLemmas.{sequence_short}
-- a spelling is the bytes that the scalar is spelled with
pub use Rattle.hir_core.proofs.SequenceLemmas.{spelled_by}
-- a string of a sequence spells a scalar of the range
pub use Rattle.hir_core.proofs.SequenceLemmas.{string_is_spelling}
-- a class of scalars means what its sequences mean
pub use Rattle.hir_core.proofs.SequenceTreeLemmas.{class_to_sequences, sequences_to_class}
-- and it prefers the same ends; no repetition is in the tree of the sequences
pub use Rattle.hir_core.proofs.SequenceTreeLemmas.{class_ends, sequences_read}
-- there are as many sequences as the count of states assumes
pub use Rattle.hir_core.proofs.SequenceTreeLemmas.{sequences_counted}
-- ---- loops over a slice from its end
-- one more element that was met is in front of those after it; at the end all were met
pub use Rattle.hir_core.proofs.BackwardLemmas.{behind_more, behind_all}
-- the set of one look has that look and no other
pub use Rattle.hir_core.proofs.LookFactLemmas.{one_has, one_held}
-- what a tree means, and prefers, in a haystack that ends at an offset is what it does up to there in the whole one
pub use Rattle.hir_core.proofs.CutLemmas.{cut_ends, cut_to_whole, whole_to_cut}
pub use Rattle.hir_core.proofs.LooksUsedLemmas.{rounds_map}
pub use Rattle.hir_core.proofs.SequenceCountLemmas.{few_pieces}
pub use Rattle.hir_core.proofs.SequenceLemmas.{spelled_one, spelled_two, spelled_three, spelled_four}
pub use Rattle.hir_core.proofs.SequenceTreeLemmas.{member_of_one}
