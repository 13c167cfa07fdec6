-- One scan of a half search, as a function of values without a cache. It starts in a DFA state and reads unit by unit.
-- A unit is a byte, or none at the end of input.
use Rattle.std.specs.Prelude.{ℕ, zero, suc, ◌-◌, ◌&&◌, not, Bool, true, false, List, Option, Some, None, if◌then◌else◌}
use Rattle.std.specs.Prelude.{slice_get}
use Rattle.std.specs.Option.{option_or}
use Rattle.search_core.specs.ByteSets.{has}
use Rattle.search_types.specs.declared.anchored.Anchored.{Anchored}
use Rattle.search_types.specs.declared.anchored.Anchored.TheVariants.{No, Yes, Pattern}
use Rattle.search_types.specs.Modes.{is_supported}
use Rattle.nfa_core.specs.Places.{first}
use Rattle.nfa_core.specs.Nfa.{Automaton}
use Rattle.nfa_core.specs.Ways.{offset_of}
use Rattle.determinize_core.specs.States.{StateValue, dead}
use Rattle.determinize_core.specs.Starts.{start_of}
use Rattle.determinize_core.specs.Steps.{unit_at, unit_before, start_value, step_value}
use Rattle.determinize_core.specs.Walked.{end_at}
pub use Rattle.lazy_dfa.specs.Dfas.{is_empty, is_dead}
use Rattle.lazy_dfa.specs.Readers.{Reader, HalfAnswer, found, quit, unsupported}

-- The index of the byte that a search at an offset reads next, forward or in reverse, and the index of its look-behind
-- byte. The look-behind byte is on the other side of the offset.
abbrev pub index_at : Bool → ℕ → ℕ
index_at false i = i
index_at true i = i - 1

abbrev pub index_before_offset : Bool → ℕ → ℕ
index_before_offset false i = i - 1
index_before_offset true i = i

-- a quit byte is the answer, together with its index
abbrev pub unless_quit : List Bool → Option ℕ → ℕ → HalfAnswer → HalfAnswer
unless_quit quits None index rest = rest
unless_quit quits (Some b) index rest = if has quits b then quit b index else rest

-- a mode in which the automaton can't search is the answer
abbrev pub if_supported : Bool → Anchored → HalfAnswer → HalfAnswer
if_supported supported mode rest = if supported then rest else unsupported mode

-- the match that a state lists first, at the offset before its unit; if it lists none, the match recorded before
abbrev pub best_recorded : ℕ → StateValue → Option (ℕ × ℕ) → Option (ℕ × ℕ)
best_recorded i v best = option_or (end_at i (first v.matches)) best

-- the state after the unit at an offset
unfoldable pub next_value : Reader → List ℕ → ℕ → StateValue → StateValue
next_value r h i v = step_value r.automaton r.terminator r.kind v (unit_at r.automaton.reverse h i)

abbrev pub next_offset : Reader → ℕ → ℕ
next_offset r i = offset_of r.automaton.reverse i 1

-- A scan from a state at an offset through n units, with the match that was recorded last. It ends at the dead state
-- and at a quit byte. If the earliest end is asked for, it also ends where a state lists a match. A state lists what
-- matches before its unit.
unfoldable pub pass_from : Reader → Bool → List ℕ → ℕ → ℕ → StateValue → Option (ℕ × ℕ) → HalfAnswer
pass_from r earliest h zero i v best = found best
pass_from r earliest h (suc n) i v best =
    if is_dead v then found best else
    unless_quit r.quits (unit_at r.automaton.reverse h i) (index_at r.automaton.reverse i)
    (if earliest && not (is_empty (next_value r h i v).matches) then found (best_recorded i (next_value r h i v) best) else
    pass_from r earliest h n (next_offset r i) (next_value r h i v) (best_recorded i (next_value r h i v) best))

-- the NFA state in which a search in this mode starts, or None if the pattern doesn't exist
abbrev pub start_name : Automaton → Anchored → Option ℕ
start_name a No = Some a.start_unanchored
start_name a Yes = Some a.start_anchored
start_name a (Pattern p) = slice_get a.start_pattern p

-- the DFA state in which it starts
unfoldable pub start_or_dead : Reader → Option ℕ → Option ℕ → StateValue
start_or_dead r behind None = dead
start_or_dead r behind (Some q) = start_value r.automaton r.terminator (start_of r.terminator behind) q

-- the DFA state in which a scan starts at offset i
abbrev pub first_value : Reader → Anchored → List ℕ → ℕ → StateValue
first_value r mode h i = start_or_dead r (unit_before r.automaton.reverse h i) (start_name r.automaton mode)

-- A scan from offset i over n bytes. It checks the look-behind byte of i first, then the mode. Then it reads these
-- bytes and the byte just past them, or the end of input if there is none.
abbrev pub scan : Reader → Anchored → Bool → List ℕ → ℕ → ℕ → HalfAnswer
scan r mode earliest h n i =
    unless_quit r.quits (unit_before r.automaton.reverse h i) (index_before_offset r.automaton.reverse i)
    (if_supported (is_supported r.starts_for_each_pattern mode) mode
    (pass_from r earliest h (suc n) i (first_value r mode h i) None))
