-- A class of scalars as a tree of bytes: an alternation of concatenations of byte ranges, a part for each sequence that
-- spells scalars of the class.
use Rattle.std.specs.Prelude.{ℕ, List, [], ◌∷◌, map}
use Rattle.std.specs.List.{flat_map}
use Rattle.hir_core.specs.Tree.{Tree, byte_class, concat, alternation}
use Rattle.hir_core.specs.Sequences.{utf8_sequences}

-- one byte of the range
abbrev pub range_tree : ℕ × ℕ → Tree
range_tree range = byte_class (range ∷ [])

-- a byte of each range, one after the other
abbrev pub sequence_tree : List (ℕ × ℕ) → Tree
sequence_tree ranges = concat (map range_tree ranges)

-- the sequences of all ranges of scalars, those of an earlier range first
abbrev pub sequences_of : List (ℕ × ℕ) → List (List (ℕ × ℕ))
sequences_of ranges = flat_map (λ r. utf8_sequences r.0 r.1) ranges

-- one of these sequences
abbrev pub by_sequences : List (ℕ × ℕ) → Tree
by_sequences ranges = alternation (map sequence_tree (sequences_of ranges))
