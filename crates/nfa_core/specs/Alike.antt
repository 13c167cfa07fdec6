-- Which bytes an automaton doesn't distinguish, and the marks from which its byte classes are made.
use Rattle.std.specs.Prelude.{◌≡◌, ◌==◌, ℕ, Bool, true, false, List, replicate}
use Rattle.std.specs.List.{flat_map}
use Rattle.search_core.specs.Marks.{recorded}
use Rattle.search_core.specs.Utf8.{is_word_byte}
use Rattle.look_core.specs.Codes.{is_anchor_lf, is_anchor_crlf, is_word_look}
use Rattle.look_core.specs.LookSets.{has_look}
use Rattle.look_core.specs.Terminators.{Terminator, ends_line}
use Rattle.look_core.specs.declared.look.Look.{Look}
use Rattle.nfa_core.specs.Nfa.{Node, Automaton, node_at}
use Rattle.nfa_core.specs.NfaValue.{ranges_apart_by, looks_of}
use Rattle.nfa_core.specs.Ways.{on_byte}

-- the marks of the states: all byte ranges that a state, or its look, distinguishes from other bytes
unfoldable pub marks_of : Terminator → List Node → List Bool
marks_of t nodes = recorded (replicate 256 false) (flat_map (ranges_apart_by t) nodes)

-- both bytes are alike in everything that a look reads of the byte next to its offset
pub record AreReadAlike (t : Terminator) (l : Look) (b c : ℕ) : Type 0 where
  pub lines : is_anchor_lf l ≡ true → ends_line t b ≡ ends_line t c
  pub feeds : is_anchor_crlf l ≡ true → (0x0A == b) ≡ (0x0A == c)
  pub returns : is_anchor_crlf l ≡ true → (0x0D == b) ≡ (0x0D == c)
  pub words : is_word_look l ≡ true → is_word_byte b ≡ is_word_byte c

-- The automaton doesn't distinguish the bytes: by both of them each state leads to the same states, and each look of a state reads them
-- alike.
pub record AreAlike (t : Terminator) (a : Automaton) (b c : ℕ) : Type 0 where
  pub led : (q : ℕ) → on_byte (node_at a q) b ≡ on_byte (node_at a q) c
  pub looks : (l : Look) → has_look (looks_of a.states) l ≡ true → AreReadAlike t l b c
