-- What a table of states does for a tree on the way from one state to another, in every text, and when reading forward or in
-- reverse.
use Rattle.std.specs.Prelude.{◌≡◌, ℕ, ◌≤◌, min, Bool, true, false, List, [], ◌∷◌, map, length, take, Some}
use Rattle.hir_core.specs.Tree.{Tree}
use Rattle.hir_core.specs.Means.{Means}
use Rattle.hir_core.specs.PreferredEnds.{preferred_ends}
use Rattle.hir_core.specs.Facts.{LoopsRead}
use Rattle.nfa_core.specs.Walks.{Lists, distinct}
use Rattle.nfa_core.specs.Runs.{IsChain, last_or}
use Rattle.nfa_core.specs.Places.{same_pair}
use Rattle.nfa_core.specs.Ways.{Text}
use Rattle.nfa_core.specs.BuilderStates.{DraftNode, union_draft, union_reverse_draft}
use Rattle.nfa_core.specs.Drafted.{Table, table_ways, table_match}

-- the state at each of the offsets
abbrev pub at : ℕ → List ℕ → List (ℕ × ℕ)
at q places = map (λ j. (j, q)) places

-- the state that leads to the first and to the second: it prefers the first, or the second if it is lazy
abbrev pub choice : Bool → ℕ → ℕ → DraftNode
choice true a e = union_draft (a ∷ e ∷ [])
choice false a e = union_reverse_draft (a ∷ e ∷ [])

-- the bytes up to the text's end: what can be seen when reading forward
abbrev pub seen : Text → List ℕ
seen t = take t.end t.haystack

-- What reading from offset i to offset j means: forward a span of the tree from i to j, in reverse one from j to i whose bytes
-- are in the text.
abbrev pub IsMeant : Bool → Text → Tree → ℕ → ℕ → Type 0
IsMeant false t x i j = Means t.holds (seen t) x i j
IsMeant true t x i j = Means t.holds t.haystack x j i × (min i t.start ≤ j)

-- a chain of ways from p to q
abbrev pub LeadsTo : Bool → Text → Table → ℕ × ℕ → ℕ × ℕ → Type 0
LeadsTo reverse t table p q = (r : List (ℕ × ℕ)) × IsChain same_pair (table_ways reverse t table) p r × (last_or p r ≡ q)

-- the chain r from p comes to the state e at an offset `middle` that is meant from offset i, and goes on from there to its own
-- end
pub record VisitsState (reverse : Bool) (t : Text) (table : Table) (meant : ℕ → ℕ → Type 0) (i e : ℕ) (p : ℕ ×
    ℕ) (r : List (ℕ × ℕ)) : Type 0 where
  pub middle : ℕ
  pub rest : List (ℕ × ℕ)
  pub is_meant : meant i middle
  pub chain : IsChain same_pair (table_ways reverse t table) (middle, e) rest
  pub fewer : length rest ≤ length r
  pub same_end : last_or (middle, e) rest ≡ last_or p r

-- From s a chain leads to e at each offset that is meant, and each chain to a match passes e at an offset that is meant.
pub record Reaches (reverse : Bool) (t : Text) (table : Table) (s e : ℕ) (meant : ℕ → ℕ → Type 0) : Type 0 where
  pub complete : (i j : ℕ) → meant i j → LeadsTo reverse t table (i, s) (j, e)
  pub sound : (i : ℕ) (r : List (ℕ × ℕ)) (m : ℕ × ℕ) → IsChain same_pair (table_ways reverse t table) (i, s) r →
      table_match table (last_or (i, s) r) ≡ Some m → VisitsState reverse t table meant i e (i, s) r

-- the two lists are the same, repeats dropped
abbrev pub HasSameFirsts : List (ℕ × ℕ) → List (ℕ × ℕ) → Type 0
HasSameFirsts l m = distinct same_pair l ≡ distinct same_pair m

-- A depth-first search from s lists what those from e list at these ends, one after the other, up to repeats.
pub record Orders (t : Text) (table : Table) (s e : ℕ) (ends : ℕ → List ℕ) : Type 0 where
  pub lists : (i : ℕ) (l : List (ℕ × ℕ)) → Lists (table_ways false t table) (table_match table) (at e (ends i)) l →
      (m : List (ℕ × ℕ)) × Lists (table_ways false t table) (table_match table) ((i, s) ∷ []) m × HasSameFirsts m l

-- the depth-first search from the pair ends
abbrev pub ComesToEnd : Bool → Text → Table → ℕ × ℕ → Type 0
ComesToEnd reverse t table p = (l : List (ℕ × ℕ)) × Lists (table_ways reverse t table) (table_match table) (p ∷ []) l

-- The depth-first search from s ends if those from e end at all offsets that are meant.
pub record Halts (reverse : Bool) (t : Text) (table : Table) (s e : ℕ) (meant : ℕ → ℕ → Type 0) : Type 0 where
  pub halts : (i : ℕ) → ((j : ℕ) → meant i j → ComesToEnd reverse t table (j, e)) → ComesToEnd reverse t table (i, s)

-- From s to e the table does what the tree means. Suppose that the body of every unbounded repetition consumes at least one byte.
-- Then depth-first searches end, and when reading forward they list in the order that the tree prefers, up to repeats.
pub record Denotes (reverse : Bool) (table : Table) (s e : ℕ) (x : Tree) : Type 0 where
  pub reaches : (t : Text) → Reaches reverse t table s e (IsMeant reverse t x)
  pub halts : LoopsRead x → (t : Text) → Halts reverse t table s e (IsMeant reverse t x)
  pub orders : reverse ≡ false → LoopsRead x → (t : Text) → Orders t table s e (preferred_ends t.holds (seen t) x)
