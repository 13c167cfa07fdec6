-- What a half search depends on, and the results that it can have.
use Rattle.std.specs.Prelude.{ℕ, Bool, false, ◌&&◌, List, Option, Some, None, slice_index_or}
use Rattle.look_core.specs.Terminators.{Terminator}
use Rattle.search_types.specs.declared.match_kind.MatchKind.{MatchKind}
use Rattle.search_types.specs.declared.anchored.Anchored.{Anchored}
use Rattle.nfa_core.specs.Nfa.{Automaton}
use Rattle.nfa_core.specs.NfaValue.{Nfa, has_empty}

pub record Reader : Type 0 where
  pub automaton : Automaton
  pub terminator : Terminator
  pub kind : MatchKind
  pub quits : List Bool  -- for each byte whether a search gives up at it
  pub between_characters : Bool  -- whether an end inside a character doesn't count
  pub starts_for_each_pattern : Bool  -- whether a search may name the pattern that it asks for

-- the reader of an NFA: in UTF-8 mode, if a match may be empty, an end inside a character doesn't count
abbrev pub reader_of : Nfa → MatchKind → List Bool → Bool → Reader
reader_of n kind quits starts = record {
  automaton = n.automaton;
  terminator = n.terminator;
  kind = kind;
  quits = quits;
  between_characters = n.utf8 && has_empty n.automaton;
  starts_for_each_pattern = starts;
}

-- whether a unit is a quit byte; the end of input isn't one
abbrev pub is_quit : List Bool → Option ℕ → Bool
is_quit quits None = false
is_quit quits (Some b) = slice_index_or quits b false

-- the result of a half search
pub data HalfAnswer : Type 0 where
  found : Option (ℕ × ℕ) → HalfAnswer  -- the offset and the pattern of the match that it found, if any
  quit : ℕ → ℕ → HalfAnswer  -- it read a quit byte: the byte and its index
  unsupported : Anchored → HalfAnswer  -- the automaton can't search in this mode
