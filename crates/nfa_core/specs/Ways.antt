-- Where the states of an automaton lead from an offset of an input, in order of preference.
use Rattle.std.specs.Prelude.{ℕ, zero, suc, ◌+◌, ◌-◌, ◌*◌, ◌<◌, ◌≤◌, Bool, true, false, List, [], ◌∷◌, ◌++◌, map, length, get_or, Option}
use Rattle.std.specs.Prelude.{Some, None, if◌then◌else◌, ◌&&◌}
use Rattle.std.specs.Bool.{nat_le, nat_lt}
use Rattle.search_core.specs.Text.{byte_at}
use Rattle.look_core.specs.declared.look.Look.{Look}
use Rattle.look_core.specs.Codes.{reversed}
use Rattle.look_core.specs.Terminators.{Terminator}
use Rattle.look_core.specs.Looks.{holds_ascii}
use Rattle.nfa_core.specs.Nfa.{Node, byte_range, sparse_node, dense_node, look_node, union_node, binary_union, capture_node, match_node}
use Rattle.nfa_core.specs.Nfa.{Automaton, node_at}
use Rattle.nfa_core.specs.Places.{same_pair, AreStepLists}
use Rattle.nfa_core.specs.Runs.{run_ends}

-- what is read: the bytes of the haystack between two offsets, and where looks hold
pub record Text : Type 0 where
  pub haystack : List ℕ
  pub start : ℕ
  pub end : ℕ
  pub holds : Look → ℕ → Bool

-- a span of a haystack; looks read the whole haystack
abbrev pub span : Terminator → List ℕ → ℕ → ℕ → Text
span t h i j = record { haystack = h; start = i; end = j; holds = holds_ascii t h }

abbrev pub whole : Terminator → List ℕ → Text
whole t h = span t h 0 (length h)

abbrev pub with_offset : ℕ → Option ℕ → Option (ℕ × ℕ)
with_offset i None = None
with_offset i (Some b) = Some (b, i)

-- The byte that is read at an offset, with the offset after it. A forward search reads the byte that begins there, a reverse search the one
-- that ends there.
abbrev pub reads : Bool → Text → ℕ → Option (ℕ × ℕ)
reads false t i = if nat_lt i t.end then with_offset (suc i) (byte_at t.haystack i) else None
reads true t zero = None
reads true t (suc i) = if nat_le t.start i then with_offset i (byte_at t.haystack i) else None

-- whether the look holds for a search forward or in reverse
abbrev pub is_satisfied : Bool → Text → Look → ℕ → Bool
is_satisfied false t l i = t.holds l i
is_satisfied true t l i = t.holds (reversed l) i

-- the state that the first range with the byte gives
abbrev pub in_ranges : List (ℕ × ℕ × ℕ) → ℕ → List ℕ
in_ranges [] b = []
in_ranges ((low, high, next) ∷ others) b = if nat_le low b && nat_le b high then next ∷ [] else in_ranges others b

-- a name but 0
abbrev pub named : ℕ → List ℕ
named zero = []
named (suc q) = suc q ∷ []

-- where a state leads by this byte
abbrev pub on_byte : Node → ℕ → List ℕ
on_byte (byte_range low high next) b = if nat_le low b && nat_le b high then next ∷ [] else []
on_byte (sparse_node ranges) b = in_ranges ranges b
on_byte (dense_node names) b = named (get_or names b 0)
on_byte _ b = []

-- where a state leads without a byte; `passed` decides which looks are passed
abbrev pub on_nothing : Node → (Look → Bool) → List ℕ
on_nothing (look_node l next) passed = if passed l then next ∷ [] else []
on_nothing (union_node names) passed = names
on_nothing (binary_union first second) passed = first ∷ second ∷ []
on_nothing (capture_node next pattern group slot) passed = next ∷ []
on_nothing _ passed = []

-- where a state leads by what is read
abbrev pub on_read : Node → Option (ℕ × ℕ) → List ℕ
on_read node None = []
on_read node (Some (b, j)) = on_byte node b

-- the offset after what is read, or the offset itself if nothing is read
abbrev pub offset_after : ℕ → Option (ℕ × ℕ) → ℕ
offset_after i None = i
offset_after i (Some (b, j)) = j

-- the states to which state q leads from offset i by a byte, and those to which it leads without one
abbrev pub byte_steps : Automaton → Text → ℕ → ℕ → List ℕ
byte_steps a t i q = on_read (node_at a q) (reads a.reverse t i)

abbrev pub plain_steps : Automaton → Text → ℕ → ℕ → List ℕ
plain_steps a t i q = on_nothing (node_at a q) (λ l. is_satisfied a.reverse t l i)

-- where a state leads from offset i, for a search forward or in reverse; a byte moves the offset by one
abbrev pub node_ways : Bool → Text → Node → ℕ → List (ℕ × ℕ)
node_ways reverse t node i =
    map (λ q. (offset_after i (reads reverse t i), q)) (on_read node (reads reverse t i))
    ++ map (λ q. (i, q)) (on_nothing node (λ l. is_satisfied reverse t l i))

-- where a pair of offset and state leads
abbrev pub ways : Automaton → Text → ℕ × ℕ → List (ℕ × ℕ)
ways a t p = node_ways a.reverse t (node_at a p.1) p.0

-- the offset after k bytes that are read from offset i
abbrev pub offset_of : Bool → ℕ → ℕ → ℕ
offset_of false i k = i + k
offset_of true i k = i - k

-- how many bytes are left to read from offset i
abbrev pub bytes_left : Bool → Text → ℕ → ℕ
bytes_left false t i = t.end - i
bytes_left true t i = i - t.start

-- what matches at an offset: the offset and the pattern
abbrev pub match_of : Node → ℕ → Option (ℕ × ℕ)
match_of (match_node pattern) i = Some (i, pattern)
match_of _ i = None

abbrev pub matched : Automaton → ℕ × ℕ → Option (ℕ × ℕ)
matched a p = match_of (node_at a p.1) p.0

-- a pair of an offset up to the input's end and a state
abbrev pub IsPairOf : Automaton → Text → ℕ × ℕ → Type 0
IsPairOf a t p = (p.0 ≤ t.end) × (p.1 < length a.states)

-- The ends of an automaton's runs from a pair, the preferred ones first, each with its pattern. The bound is how many pairs there are of a
-- state and an offset up to the input's end, so no run is left out.
abbrev pub ends_from : Automaton → Text → ℕ × ℕ → List (ℕ × ℕ)
ends_from a t p = run_ends same_pair same_pair (ways a t) (matched a) (suc t.end * length a.states) p

-- The lists of states from one depth-first search for each offset, the first of them from state q at offset i. Each of the others begins
-- with what the list before leads to, as far as `cut` keeps that list.
abbrev pub AreLists : Automaton → Text → ℕ × ℕ → (ℕ → List ℕ → List ℕ) → (ℕ → List ℕ) → Type 0
AreLists a t p cut lists =
    AreStepLists (λ k. plain_steps a t (offset_of a.reverse p.0 k)) (λ k. byte_steps a t (offset_of a.reverse p.0 k)) cut
    (bytes_left a.reverse t p.0) p.1 lists

-- what matches in a state after k bytes that were read from offset i
abbrev pub matched_after : Automaton → ℕ → ℕ × ℕ → Option (ℕ × ℕ)
matched_after a i p = matched a (offset_of a.reverse i p.0, p.1)
