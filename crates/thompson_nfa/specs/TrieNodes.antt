-- The nodes of a trie. An edge leads to a node that was made before its own; what a node emits follows from what those emit.
use Rattle.std.specs.Prelude.{◌≡◌, ℕ, ◌+◌, ◌<◌, ◌≤◌, ◌++◌, List, [], ◌∷◌, map, get_or, length}
use Rattle.thompson_nfa.specs.declared.range_tries.trie_nodes.Edge.{Edge}
use Rattle.thompson_nfa.specs.declared.range_tries.trie_nodes.Next.{Next}
use Rattle.thompson_nfa.specs.declared.range_tries.trie_nodes.Next.TheVariants.{Nothing, End, Node}

-- what follows an edge: no string, the empty one, or what the node emits
abbrev pub following : List (List (List (ℕ × ℕ))) → Next → List (List (ℕ × ℕ))
following emitted Nothing = []
following emitted End = [] ∷ []
following emitted (Node n) = get_or emitted n []

-- what the edges emit
abbrev pub along : List (List (List (ℕ × ℕ))) → List Edge → List (List (ℕ × ℕ))
along emitted [] = []
along emitted (e ∷ es) = map (λ q. (e.range.start, e.range.end) ∷ q) (following emitted e.next) ++ along emitted es

-- what each node emits, where those before them emit what is given
abbrev pub emitted_from : List (List (List (ℕ × ℕ))) → List (List Edge) → List (List (List (ℕ × ℕ)))
emitted_from emitted [] = emitted
emitted_from emitted (n ∷ ns) = emitted_from (emitted ++ along emitted n ∷ []) ns

-- an edge leads to one of so many nodes
abbrev pub IsInside : ℕ → Next → Type 0
IsInside count Nothing = Unit {0}
IsInside count End = Unit {0}
IsInside count (Node n) = n < count

abbrev pub AreInside : ℕ → List Edge → Type 0
AreInside count [] = Unit {0}
AreInside count (e ∷ es) = IsInside count e.next × AreInside count es

-- no range is empty, each begins after the one before it ends, and the first one begins at this byte or after it
abbrev pub Rises : ℕ → List Edge → Type 0
Rises low [] = Unit {0}
Rises low (e ∷ es) = (low ≤ e.range.start) × (e.range.start ≤ e.range.end) × Rises (e.range.end + 1) es

-- each node's ranges rise, and its edges lead to those before it, which begin with so many
abbrev pub AreNodes : ℕ → List (List Edge) → Type 0
AreNodes count [] = Unit {0}
AreNodes count (n ∷ ns) = AreInside count n × Rises 0 n × AreNodes (count + 1) ns

-- the later nodes begin with the earlier ones
pub record IsLater (old new : List (List (List (ℕ × ℕ)))) : Type 0 where
  pub len : length old ≤ length new
  pub same : (i : ℕ) → i < length old → get_or new i [] ≡ get_or old i []
