-- A step of an insertion: the edges of a node are divided at the ends of a range, and what follows those in the range gains the
-- strings of the ranges that are left.
use Rattle.std.specs.Prelude.{◌≡◌, ◌⊎◌, ℕ, ◌<◌, ◌≤◌, List, [], ◌∷◌, length}
use Rattle.thompson_nfa.specs.declared.range_tries.trie_nodes.Edge.{Edge}
use Rattle.thompson_nfa.specs.declared.range_tries.trie_nodes.Next.{Next}
use Rattle.thompson_nfa.specs.RangeTries.{IsInSome, IsWith}
use Rattle.thompson_nfa.specs.TrieNodes.{following, AreInside, Rises}

-- an edge has the byte, and the rest of the string follows it
abbrev pub EdgesRead : List (List (List (ℕ × ℕ))) → List Edge → ℕ → List ℕ → Type 0
EdgesRead v [] b t = ⊥
EdgesRead v (e ∷ es) b t = ((e.range.start ≤ b) × (b ≤ e.range.end) × IsInSome (following v e.next) t) ⊎ EdgesRead v es b t

-- an edge has the byte
abbrev pub HasEdge : List Edge → ℕ → Type 0
HasEdge [] b = ⊥
HasEdge (e ∷ es) b = ((e.range.start ≤ b) × (b ≤ e.range.end)) ⊎ HasEdge es b

-- the edge lies in the range
abbrev pub LiesWithin : ℕ → ℕ → Edge → Type 0
LiesWithin start stop e = (start ≤ e.range.start) × (e.range.end < stop)

-- the edge lies outside the range
abbrev pub IsOutsideOf : ℕ → ℕ → Edge → Type 0
IsOutsideOf start stop e = (e.range.end < start) ⊎ (stop ≤ e.range.start)

-- each edge lies in the range or outside it
abbrev pub AreDivided : ℕ → ℕ → List Edge → Type 0
AreDivided start stop [] = Unit {0}
AreDivided start stop (e ∷ es) = (LiesWithin start stop e ⊎ IsOutsideOf start stop e) × AreDivided start stop es

-- the pieces have the strings of what follows, and an edge for each byte of the range
pub record IsCover (v : List (List (List (ℕ × ℕ)))) (next : Next) (start stop : ℕ) (pieces : List Edge) : Type 0 where
  pub rising : Rises 0 pieces
  pub inside : AreInside (length v) pieces
  pub divided : AreDivided start stop pieces
  pub covered : (b : ℕ) → start ≤ b → b < stop → HasEdge pieces b
  pub only : (b : ℕ) (t : List ℕ) → EdgesRead v pieces b t → IsInSome (following v next) (b ∷ t)
  pub kept : (b : ℕ) (t : List ℕ) → IsInSome (following v next) (b ∷ t) → EdgesRead v pieces b t

-- what follows an edge in the range gains the strings, and what follows one outside it stays
abbrev pub GainsStrings : List (List (List (ℕ × ℕ))) → List (List (List (ℕ × ℕ))) → ℕ → ℕ → List (ℕ × ℕ) → Edge → Edge → Type 0
GainsStrings v w start stop rest p e =
    (e.range ≡ p.range)
    × ((LiesWithin start stop p × IsWith (following v p.next) rest (following w e.next)) ⊎
    (IsOutsideOf start stop p × (following w e.next ≡ following v p.next)))
