-- A pattern as a tree, after the kinds of `regex_syntax::hir::HirKind`. Contracts see each `Hir` as one.
use Rattle.std.specs.Prelude.{ℕ, Bool, List, [], ◌∷◌, Option}
use Rattle.look_core.specs.declared.look.Look.{Look}

pub data Tree : Type 0 where
  -- the empty string
  empty : Tree
  -- these bytes, one after the other
  literal : List ℕ → Tree
  -- one byte, of one of these ranges, whose ends belong to them
  byte_class : List (ℕ × ℕ) → Tree
  -- the UTF-8 of one scalar, of one of these ranges, whose ends belong to them
  char_class : List (ℕ × ℕ) → Tree
  -- no byte, at an offset where the look holds
  look : Look → Tree
  -- rounds of a body: at least so many; at most so many, if there is a bound; whether more rounds are preferred
  repetition : ℕ → Option ℕ → Bool → Tree → Tree
  -- a body whose span is recorded as the group with this index and, if it has one, this name
  capture : ℕ → Option (List ℕ) → Tree → Tree
  -- a concatenation: of no parts, or of a first part and the concatenation of the others
  nothing : Tree
  cat : Tree → Tree → Tree
  -- an alternation: of no parts, or of a first part and the alternation of the others
  never : Tree
  alt : Tree → Tree → Tree

-- the concatenation of these parts
abbrev pub concat : List Tree → Tree
concat [] = nothing
concat (x ∷ xs) = cat x (concat xs)

-- the alternation of these parts, the preferred ones first
abbrev pub alternation : List Tree → Tree
alternation [] = never
alternation (x ∷ xs) = alt x (alternation xs)
