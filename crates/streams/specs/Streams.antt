-- What a stream reports of input that comes in pieces, and where it is after them, as functions of values that know no cache.
use Rattle.std.specs.Prelude.{◌≡◌, ◌+◌, ◌||◌, ℕ, Bool, false, not, nat_le, List, [], ◌∷◌, ◌++◌, map, Some, None, ⊤}
use Rattle.std.specs.Prelude.{if◌then◌else◌}
use Rattle.search_core.specs.ByteSets.{has}
use Rattle.determinize_core.specs.States.{StateValue}
use Rattle.determinize_core.specs.declared.start.Start.TheVariants.{Text}
use Rattle.lazy_dfa.specs.Dfas.{Dfa, IsStateOf, after, first_state, is_dead, reader}
use Rattle.streams.specs.declared.stream.Point.{Point}
use Rattle.streams.specs.declared.stream.Point.TheVariants.{Fresh, Within, Dead, Failed, Closed}
use Rattle.streams.specs.declared.stream.Stream.{Stream}
use Rattle.streams.specs.declared.stream.StreamMatch.{StreamMatch}

-- a stream that has read nothing
abbrev pub fresh_stream : Stream
fresh_stream = record { point = Fresh; offset = 0 }

-- the state in which a stream begins
abbrev pub first_state_of : Dfa → StateValue
first_state_of d = first_state d Text d.nfa.automaton.start_unanchored

-- ---- one byte

-- The byte is the first of a character, or one of ASCII. If an automaton in UTF-8 mode may match the empty string, an end counts only
-- before such a byte, and at the end of the input.
abbrev pub begins_character : ℕ → Bool
begins_character b = nat_le b 0x7F || nat_le 0xC0 b

abbrev pub counts_before : Dfa → ℕ → Bool
counts_before d b = not (reader d).between_characters || begins_character b

-- an end of a match of this pattern
abbrev pub stream_end : ℕ → ℕ → StreamMatch
stream_end i p = record { pattern = p; end = i }

-- the ends of matches of these patterns at an offset, if an end counts there
abbrev pub counted_ends : Bool → ℕ → List ℕ → List StreamMatch
counted_ends counted i patterns = if counted then map (stream_end i) patterns else []

-- where a stream is in a state
abbrev pub point_in : StateValue → Point
point_in s = if is_dead s then Dead else Within s

-- From a state at an offset: where a stream is after a byte. A byte at which the automaton gives up isn't counted.
abbrev pub stream_after : Dfa → StateValue → ℕ → ℕ → Stream
stream_after d s i b =
    if is_dead s then record { point = Dead; offset = i + 1 } else
    if has d.quits b then record { point = Failed b; offset = i } else
    record { point = point_in (after d s (Some b)); offset = i + 1 }

-- the ends at this offset, which are known once the byte after it is read
abbrev pub ends_before : Dfa → StateValue → ℕ → ℕ → List StreamMatch
ends_before d s i b =
    if is_dead s then [] else
    if has d.quits b then [] else
    counted_ends (counts_before d b) i (after d s (Some b)).matches

abbrev pub next_at : Dfa → Point → ℕ → ℕ → Stream
next_at d Fresh i b = stream_after d (first_state_of d) i b
next_at d (Within s) i b = stream_after d s i b
next_at d Dead i b = record { point = Dead; offset = i + 1 }
next_at d (Failed q) i b = record { point = Failed q; offset = i }
next_at d Closed i b = record { point = Closed; offset = i }

abbrev pub stream_ends_at : Dfa → Point → ℕ → ℕ → List StreamMatch
stream_ends_at d Fresh i b = ends_before d (first_state_of d) i b
stream_ends_at d (Within s) i b = ends_before d s i b
stream_ends_at d Dead i b = []
stream_ends_at d (Failed q) i b = []
stream_ends_at d Closed i b = []

-- ---- pieces

-- a stream after these bytes
unfoldable pub fed : Dfa → Stream → List ℕ → Stream
fed d s [] = s
fed d s (b ∷ bs) = fed d (next_at d s.point s.offset b) bs

-- the ends that it reports for these bytes
unfoldable pub stream_ends : Dfa → Stream → List ℕ → List StreamMatch
stream_ends d s [] = []
stream_ends d s (b ∷ bs) = stream_ends_at d s.point s.offset b ++ stream_ends d (next_at d s.point s.offset b) bs

-- ---- the end of the input

-- the patterns of the ends at the end of the input
abbrev pub last_patterns : Dfa → StateValue → List ℕ
last_patterns d s = if is_dead s then [] else (after d s None).matches

abbrev pub last_at : Dfa → Point → List ℕ
last_at d Fresh = last_patterns d (first_state_of d)
last_at d (Within s) = last_patterns d s
last_at d Dead = []
last_at d (Failed q) = []
last_at d Closed = []

-- the ends that it reports when it is closed
abbrev pub last_ends : Dfa → Stream → List StreamMatch
last_ends d s = map (stream_end s.offset) (last_at d s.point)

-- ---- streams of an automaton

abbrev pub IsPointOf : Dfa → Point → Type 0
IsPointOf d Fresh = ⊤
IsPointOf d (Within s) = IsStateOf d s × (is_dead s ≡ false)
IsPointOf d Dead = ⊤
IsPointOf d (Failed q) = ⊤
IsPointOf d Closed = ⊤

-- its state is one of this automaton
abbrev pub IsStreamOf : Dfa → Stream → Type 0
IsStreamOf d s = IsPointOf d s.point
