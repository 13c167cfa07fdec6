-- What the proofs of other crates may cite of this crate, besides its definitions and its public laws.
-- looks differ if their numbers do; the numbers are below eighteen
pub use Rattle.look_core.proofs.LookRows.{same_from_bit, look_at-bit_of, bit_of-lt}
-- a look that is reversed twice is as it was
pub use Rattle.look_core.proofs.LookRows.{reversed_twice}
-- the members of the empty set, of a set of one look, and of sets that are made of others
pub use Rattle.look_core.proofs.LookSetLemmas.{has_look-none, has_look-repr, has_look-with, has_look-union, has_look-shared}
pub use Rattle.look_core.proofs.LookSetLemmas.{has_look-without}
-- sets that are made so have no bits but those of looks
pub use Rattle.look_core.proofs.LookSetLemmas.{repr-lt, union-lt}
-- sets with the same members are equal
pub use Rattle.look_core.proofs.LookSetLemmas.{same_members}
-- bytes of one class lie alike in each range of which the classes were made
pub use Rattle.look_core.proofs.ClassLemmas.{same_class_alike}
-- bytes that lie alike in the ranges of terminators, of word bytes and of one byte read alike as such
pub use Rattle.look_core.proofs.ClassLemmas.{LieAlike, same_end, same_word, same_byte}
-- haystacks whose bytes are alike at each offset: what is read next to an offset, and the looks there
pub use Rattle.look_core.proofs.ClassLemmas.{AtEach, same_at, same_before, alike_bytes, same_unicode, word_ranges_told}
-- a look that asks for no words by characters is read by bytes, whatever reads words; next to ASCII bytes every look is
pub use Rattle.look_core.proofs.MirrorLemmas.{reads_bytes}
pub use Rattle.look_core.proofs.SideLemmas.{agree_on_ascii}
pub use Rattle.look_core.proofs.ClassLemmas.{All-left}
pub use Rattle.look_core.proofs.ClassLemmas.{All-right}
pub use Rattle.look_core.proofs.MirrorLemmas.{edge_turns}
pub use Rattle.look_core.proofs.MirrorLemmas.{no_edge_turns}
