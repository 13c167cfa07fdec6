-- The ends of a tree's spans from an offset in order of preference: leftmost-first, as the crate `regex` documents
-- it. An earlier part of an alternation is preferred, a greedy repetition prefers more rounds, a lazy one fewer.
use Rattle.std.specs.Prelude.{◌≡◌, ℕ, zero, suc, ◌+◌, ◌-◌, Bool, true, false, List, [], ◌∷◌, ◌++◌, length, Option, Some, None}
use Rattle.std.specs.Prelude.{if◌then◌else◌, ◌⊎◌, slice_get}
use Rattle.std.specs.List.{flat_map}
use Rattle.hir_core.specs.Tree.{Tree, empty, literal, byte_class, char_class, look, repetition, capture, nothing, cat, never, alt}
use Rattle.search_core.specs.Characters.{character_at, spelling_len}
use Rattle.hir_core.specs.Means.{Looks, stands, is_member}

-- for each offset the ends of the spans from there
abbrev pub Ends : Type 0
Ends = ℕ → List ℕ

-- greedy: more rounds, then stop; lazy: stop, then more rounds
abbrev pub in_order : Bool → List ℕ → ℕ → List ℕ
in_order true more stop = more ++ stop ∷ []
in_order false more stop = stop ∷ more

-- exactly n rounds of the body
abbrev pub exactly : Ends → ℕ → Ends
exactly body zero i = i ∷ []
exactly body (suc n) i = flat_map (exactly body n) (body i)

-- at most n rounds of the body
abbrev pub up_to : Bool → Ends → ℕ → Ends
up_to greedy body zero i = i ∷ []
up_to greedy body (suc n) i = in_order greedy (flat_map (up_to greedy body n) (body i)) i

-- Any number of rounds. If each round consumes a byte, the bytes from i on leave no room for more rounds than these.
-- If a round may be empty, further rounds lead to no further ends.
abbrev pub unbounded : List ℕ → Bool → Ends → Ends
unbounded h greedy body i = up_to greedy body (length h - i) i

-- at least min rounds, and no bound
abbrev pub at_least : List ℕ → Bool → Ends → ℕ → Ends
at_least h greedy body zero i = unbounded h greedy body i
at_least h greedy body (suc min) i = flat_map (at_least h greedy body min) (body i)

-- from min to most rounds: until min rounds are made, each round lowers both bounds by one; then more rounds or stop
abbrev pub between : Bool → Ends → ℕ → ℕ → Ends
between greedy body zero most i = up_to greedy body most i
between greedy body (suc min) zero i = []
between greedy body (suc min) (suc most) i = flat_map (between greedy body min most) (body i)

-- from min rounds to the bound, if there is one
abbrev pub repeated : List ℕ → ℕ → Option ℕ → Bool → Ends → Ends
repeated h min None greedy body i = at_least h greedy body min i
repeated h min (Some most) greedy body i = between greedy body min most i

-- the end of one byte of a class, if the haystack has this byte, or none, at i
abbrev pub class_end : List (ℕ × ℕ) → Option ℕ → Ends
class_end ranges None i = []
class_end ranges (Some b) i = if is_member ranges b then (i + 1) ∷ [] else []

-- the end of a character of a class, if a spelling of this character, or of none, begins at i
abbrev pub character_end : List (ℕ × ℕ) → Option ℕ → Ends
character_end ranges None i = []
character_end ranges (Some c) i = if is_member ranges c then (i + spelling_len c) ∷ [] else []

-- the ends of the tree's spans of the haystack h from i, the preferred ones first, with looks read so
abbrev pub preferred_ends : Looks → List ℕ → Tree → Ends
preferred_ends looks h empty i = i ∷ []
preferred_ends looks h (literal bytes) i = if stands h i bytes then (i + length bytes) ∷ [] else []
preferred_ends looks h (byte_class ranges) i = class_end ranges (slice_get h i) i
preferred_ends looks h (char_class ranges) i = character_end ranges (character_at h i) i
preferred_ends looks h (look l) i = if looks l i then i ∷ [] else []
preferred_ends looks h (repetition min max greedy x) i = repeated h min max greedy (preferred_ends looks h x) i
preferred_ends looks h (capture index name x) i = preferred_ends looks h x i
preferred_ends looks h nothing i = i ∷ []
preferred_ends looks h (cat x y) i = flat_map (preferred_ends looks h y) (preferred_ends looks h x i)
preferred_ends looks h never i = []
preferred_ends looks h (alt x y) i = preferred_ends looks h x i ++ preferred_ends looks h y i

-- j is in the list
abbrev pub Has : List ℕ → ℕ → Type 0
Has [] j = ⊥
Has (x ∷ xs) j = (x ≡ j) ⊎ Has xs j
