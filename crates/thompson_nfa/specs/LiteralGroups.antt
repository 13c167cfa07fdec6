-- Strings of bytes in groups, by the bytes with which they begin.
use Rattle.std.specs.Prelude.{◌≡◌, ℕ, suc, ◌+◌, ◌<◌, ◌≤◌, List, [], ◌∷◌, ◌++◌, map, length, get_or, nat_eq, nat_lt}
use Rattle.std.specs.Prelude.{if◌then◌else◌}
use denote.Ref.{Bor}
use Rattle.thompson_nfa.specs.declared.literals.literal_groups.Edge.{Edge}

-- the strings that these references point to
abbrev pub texts : List (Bor (List ℕ)) → List (List ℕ)
texts strings = map (λ s. s.now) strings

-- one more string: it is kept, without its first byte, if this is the byte
abbrev pub with_tail : ℕ → List ℕ → List (List ℕ) → List (List ℕ)
with_tail b [] rest = rest
with_tail b (a ∷ w) rest = if nat_eq a b then w ∷ rest else rest

-- what follows the byte in the strings that begin with it, in order
abbrev pub tails : ℕ → List (List ℕ) → List (List ℕ)
tails b [] = []
tails b (w ∷ ws) = with_tail b w (tails b ws)

-- how many of the bytes come before the first that isn't less than b
abbrev pub place_of : ℕ → List ℕ → ℕ
place_of b [] = 0
place_of b (a ∷ bs) = if nat_lt a b then suc (place_of b bs) else 0

-- how many strings come before the first empty one
abbrev pub run_of : List (List ℕ) → ℕ
run_of [] = 0
run_of ([] ∷ ws) = 0
run_of ((b ∷ w) ∷ ws) = suc (run_of ws)

-- all of them, each after the byte
abbrev pub each_after : ℕ → List (List ℕ) → List (List ℕ)
each_after b [] = []
each_after b (w ∷ ws) = (b ∷ w) ∷ each_after b ws

-- the strings of each group, where groups hold references
abbrev pub strings_of_groups : {V : Type 0} → (V → List (Bor (List ℕ))) → List V → List (List (List ℕ))
strings_of_groups items groups = map (λ g. texts (items g)) groups

-- the strings of edges, each of which leads to a group by its number
abbrev pub chunk_strings : List (List (List ℕ)) → List Edge → List (List ℕ)
chunk_strings groups [] = []
chunk_strings groups (e ∷ es) = each_after e.byte (get_or groups e.next []) ++ chunk_strings groups es

-- what is left between two bytes: each edge has a byte of its own, and they ascend
abbrev pub Ascends : ℕ → List Edge → ℕ → Type 0
Ascends low [] high = low ≤ high
Ascends low (e ∷ es) high = (low ≤ e.byte) × (e.byte < 256) × Ascends (e.byte + 1) es high

-- each edge leads to a group with such a number
abbrev pub LeadWithin : ℕ → ℕ → List Edge → Type 0
LeadWithin first end [] = Unit {0}
LeadWithin first end (e ∷ es) = (first ≤ e.next) × (e.next < end) × LeadWithin first end es

-- an edge by each of the bytes, to groups with the numbers from `next` on
abbrev pub edges_by : ℕ → List ℕ → List Edge
edges_by next [] = []
edges_by next (b ∷ bs) = record { byte = b; next = next } ∷ edges_by (next + 1) bs

-- the strings of groups, each group after its byte
abbrev pub grouped_strings : List ℕ → List (List (List ℕ)) → List (List ℕ)
grouped_strings [] groups = []
grouped_strings (b ∷ bs) [] = []
grouped_strings (b ∷ bs) (g ∷ groups) = each_after b g ++ grouped_strings bs groups

-- these are bytes, each greater than the one before, and none is less than `low`
abbrev pub BytesAscend : ℕ → List ℕ → Type 0
BytesAscend low [] = low ≤ 256
BytesAscend low (b ∷ bs) = (low ≤ b) × (b < 256) × BytesAscend (b + 1) bs

-- how many bytes there are in all
abbrev pub bytes_in : List (List ℕ) → ℕ
bytes_in [] = 0
bytes_in (w ∷ ws) = length w + bytes_in ws

abbrev pub bytes_in_all : List (List (List ℕ)) → ℕ
bytes_in_all [] = 0
bytes_in_all (g ∷ gs) = bytes_in g + bytes_in_all gs

-- how many strings there are in all
abbrev pub strings_in_all : List (List (List ℕ)) → ℕ
strings_in_all [] = 0
strings_in_all (g ∷ gs) = length g + strings_in_all gs

-- Edges to groups with numbers from `first` on, which have the strings that begin with a byte.
pub record IsChunk (first : ℕ) (groups : List (List (List ℕ))) (edges : List Edge) (strings : List (List ℕ)) : Type 0 where
  pub ascends : Ascends 0 edges 256
  pub inside : LeadWithin first (length groups) edges
  pub same_tails : (c : ℕ) → tails c (chunk_strings groups edges) ≡ tails c strings

-- each of the groups has a string
abbrev pub AllSome : List (List (List ℕ)) → Type 0
AllSome [] = Unit {0}
AllSome (g ∷ gs) = (1 ≤ length g) × AllSome gs

-- Groups were added, one for each edge, whose strings are shorter by a byte each, and no more.
pub record AddsGroups (old new : List (List (List ℕ))) (edges : ℕ) (strings : List (List ℕ)) : Type 0 where
  pub added : List (List (List ℕ))
  pub is : new ≡ old ++ added
  pub one_each : length added ≡ edges
  pub some : AllSome added
  pub room : length new + bytes_in_all new ≤ length old + bytes_in_all old + bytes_in strings
  pub no_more : strings_in_all new ≤ strings_in_all old + length strings

-- The groups have what follows each of these bytes in the strings that begin with it.
pub record AreGroups (bytes : List ℕ) (groups : List (List (List ℕ))) (strings : List (List ℕ)) : Type 0 where
  pub as_many : length bytes ≡ length groups
  pub ascend : BytesAscend 0 bytes
  pub same_tails : (c : ℕ) → tails c (grouped_strings bytes groups) ≡ tails c strings
  pub some : AllSome groups
  pub room : length groups + bytes_in_all groups ≤ bytes_in strings
  pub no_more : strings_in_all groups ≤ length strings
