-- Depth-first searches of a graph. `ways` lists where each vertex leads, in order of preference, and `same` decides whether two vertices
-- are equal.
use Rattle.std.specs.Prelude.{◌≡◌, ℕ, zero, suc, ◌≤◌, List, [], ◌∷◌, ◌++◌, length, Bool, true, false, Option, Some, None, if◌then◌else◌}
use Rattle.std.specs.List.{list_any, flat_map}
use Rattle.std.specs.Bool.{Decides}

abbrev pub has : {A : Type 0} → (A → A → Bool) → A → List A → Bool
has same x xs = list_any (same x) xs

abbrev pub Has : {A : Type 0} → (A → A → Bool) → A → List A → Type 0
Has same x xs = has same x xs ≡ true

-- `seen`, and then each of the others that was not there yet
abbrev pub join : {A : Type 0} → (A → A → Bool) → List A → List A → List A
join same seen [] = seen
join same seen (x ∷ xs) = if has same x seen then join same seen xs else join same (seen ++ x ∷ []) xs

-- the list with repeats dropped: of equal ones the first stays
abbrev pub distinct : {A : Type 0} → (A → A → Bool) → List A → List A
distinct same xs = join same [] xs

-- The ends of all chains from x that avoid `path` and visit nothing twice, in order of preference: x itself, then the ends by its first
-- edge, and so on. No chain of more than the given number of vertices is followed.
abbrev pub chain_ends : {A : Type 0} → (A → A → Bool) → (A → List A) → ℕ → List A → A → List A
chain_ends same ways zero path x = []
chain_ends same ways (suc n) path x = if has same x path then [] else (x ∷ flat_map (chain_ends same ways n (x ∷ path)) (ways x))

-- The depth-first search with one set of all visited vertices. It begins with the set `seen` and a stack, and ends with the set `after`. It
-- skips a vertex that was visited. It adds a new one to the set and then searches from where that leads.
pub data Visits {A : Type 0} (same : A → A → Bool) (ways : A → List A) : List A → List A → List A → Type 0 where
  done : (seen after : List A) → seen ≡ after → Visits same ways [] seen after
  held : (x : A) (stack seen after : List A) → Has same x seen → Visits same ways stack seen after → Visits same ways (x ∷ stack) seen after
  fresh : (x : A) (stack seen mid after : List A) → has same x seen ≡ false → Visits same ways (ways x) (seen ++ x ∷ []) mid →
      Visits same ways stack mid after → Visits same ways (x ∷ stack) seen after

-- The depth-first search of a stack, with no record of what was visited: the answers that it finds, in order. It follows no edge of a
-- vertex that has an answer.
pub data Lists {A B : Type 0} (ways : A → List A) (answer : A → Option B) : List A → List B → Type 0 where
  lists_none : Lists ways answer [] []
  lists_answer : (x : A) (e : B) (rest : List A) (l : List B) → answer x ≡ Some e → Lists ways answer rest l →
      Lists ways answer (x ∷ rest) (e ∷ l)
  lists_ways : (x : A) (rest : List A) (l : List B) → answer x ≡ None → Lists ways answer (ways x ++ rest) l →
      Lists ways answer (x ∷ rest) l

abbrev pub HasNoneTwice : {A : Type 0} → (A → A → Bool) → List A → Type 0
HasNoneTwice same [] = Unit {0}
HasNoneTwice same (x ∷ xs) = (has same x xs ≡ false) × HasNoneTwice same xs

abbrev pub IsEquality : {A : Type 0} → (A → A → Bool) → Type 0
IsEquality {A} same = (x y : A) → Decides (same x y) (x ≡ y)

-- edges from the vertices in a set lead to vertices in it, and a list of such vertices without repeats has at most n of them
pub record IsFinite {A : Type 0} (same : A → A → Bool) (ways : A → List A) (In : A → Type 0) (n : ℕ) : Type 0 where
  pub stays : (x : A) → In x → (y : A) → Has same y (ways x) → In y
  pub room : (xs : List A) → ((x : A) → Has same x xs → In x) → HasNoneTwice same xs → length xs ≤ n

-- each vertex that a vertex of the list leads to is in the list already
abbrev pub IsClosed : {A : Type 0} → (A → A → Bool) → (A → List A) → List A → Type 0
IsClosed {A} same ways seen = (y : A) → Has same y seen → (z : A) → Has same z (ways y) → Has same z seen
