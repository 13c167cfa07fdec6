-- What the proofs of other crates may cite of this crate, besides its definitions and its public laws.
-- a spelling has a byte, and as many as its scalar takes
pub use Rattle.search_core.proofs.SplitLemmas.{spelling_some}
pub use Rattle.search_core.proofs.CharacterLemmas.{spelling_has_len}
-- how long a spelling is by its first byte
pub use Rattle.search_core.proofs.DecodeLemmas.{Leads, spelling_leads}
-- all bytes of a spelling but the first continue it
pub use Rattle.search_core.proofs.SplitLemmas.{spelling_tails}
-- a spelling is what std encodes, and no other scalar has it
pub use Rattle.search_core.proofs.Utf8Lemmas.{spelling_encodes, encoded_spells, one_scalar}
-- what std encodes, by its number of bytes
pub use Rattle.search_core.proofs.Utf8Lemmas.{encode_two, encode_three, encode_four}
-- scalars by two ranges of numbers
pub use Rattle.search_core.proofs.Utf8Lemmas.{range-of_IsScalar, IsScalar-of_range}
-- concatenated spellings are what std calls UTF-8
pub use Rattle.search_core.proofs.Utf8Lemmas.{utf8_of_valid, valid_of_utf8}
-- the character at an offset is the one whose spelling begins there, or ends there
pub use Rattle.search_core.proofs.CharacterLemmas.{character_begins, begun_character, ended_character}
-- what is read at an offset, or before it, is determined by the bytes
pub use Rattle.search_core.proofs.CharacterLemmas.{read_at_once, read_before_once}
-- a split offset is no boundary, and each offset of valid UTF-8 is one or the other
pub use Rattle.search_core.proofs.SplitLemmas.{split_is_no_boundary, boundary_or_split}
-- bytes of one class lie alike in each range that was recorded
pub use Rattle.search_core.proofs.MarkLemmas.{same_class_tells}
-- an iterator that is seen as the list of what is left advances by returning the first of it
pub use Rattle.search_core.proofs.StepLemmas.{step_goes}
-- what follows valid UTF-8 in valid UTF-8 is valid
pub use Rattle.search_core.proofs.RestLemmas.{rest_valid}
-- no character is split at an offset if the bytes after it are valid UTF-8
pub use Rattle.search_core.proofs.RestLemmas.{behind_whole}
-- no character is split where valid UTF-8 with a byte or more starts
pub use Rattle.search_core.proofs.RestLemmas.{start_whole}
-- an offset of valid UTF-8 that splits no character is a boundary
pub use Rattle.search_core.proofs.RestLemmas.{unsplit_boundary}
-- the bytes after an offset of valid UTF-8 that splits no character are valid UTF-8
pub use Rattle.search_core.proofs.CutLemmas.{valid_behind}
-- marking ranges doesn't change how many bytes have marks
pub use Rattle.search_core.proofs.MarkLemmas.{length-recorded}
-- marks are among themselves, and stay when ranges are marked; bytes of one class are in one class of fewer marks too
pub use Rattle.search_core.proofs.MarkLemmas.{own_marks, marks_stay, same_class_of_finer}
