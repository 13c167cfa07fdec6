-- Runs by position. A position counts the bytes that were read. `eps k` are the transitions between states at position k that consume
-- nothing, and `step k` those by the byte after it.
use Rattle.std.specs.Prelude.{◌≡◌, ℕ, zero, suc, ◌<◌, ◌≤◌, List, [], ◌∷◌, ◌++◌, map, Bool, Option, Some, None, ◌&&◌, if◌then◌else◌}
use Rattle.std.specs.List.{flat_map}
use Rattle.std.specs.Option.{option_or}
use Rattle.std.specs.Bool.{nat_eq}
use Rattle.nfa_core.specs.Walks.{Has, chain_ends, Visits}
use Rattle.nfa_core.specs.Runs.{answers}

abbrev pub same_pair : ℕ × ℕ → ℕ × ℕ → Bool
same_pair p q = nat_eq p.0 q.0 && nat_eq p.1 q.1

-- where a pair of position and state leads: by its byte, and then without one
abbrev pub nexts : (ℕ → ℕ → List ℕ) → (ℕ → ℕ → List ℕ) → ℕ × ℕ → List (ℕ × ℕ)
nexts eps step p = map (λ y. (suc p.0, y)) (step p.0 p.1) ++ map (λ y. (p.0, y)) (eps p.0 p.1)

-- ways lead from states below n to states below n
abbrev pub StaysBelow : ℕ → (ℕ → List ℕ) → Type 0
StaysBelow n ways = (x : ℕ) → x < n → (y : ℕ) → Has nat_eq y (ways x) → y < n

-- the states in which runs arrive at position k, in order of preference
abbrev pub arrivals : (ℕ → ℕ → List ℕ) → (ℕ → ℕ → List ℕ) → ℕ → ℕ → ℕ → List ℕ
arrivals eps step n start zero = chain_ends nat_eq (eps 0) n [] start
arrivals eps step n start (suc k) = flat_map (chain_ends nat_eq (eps (suc k)) n []) (flat_map (step k) (arrivals eps step n start k))

-- The lists of states from one depth-first search for each position. Each search begins with the states to which the list before leads by a
-- byte, as far as `cut` keeps that list.
pub record AreStepLists (eps step : ℕ → ℕ → List ℕ) (cut : ℕ → List ℕ → List ℕ) (len start : ℕ) (lists : ℕ → List ℕ) : Type 0 where
  pub first : Visits nat_eq (eps 0) (start ∷ []) [] (lists 0)
  pub later : (k : ℕ) → k < len → Visits nat_eq (eps (suc k)) (flat_map (step k) (cut k (lists k))) [] (lists (suc k))

-- the list if there is no answer, and otherwise nothing
abbrev pub unless_answered : {B : Type 0} → Option B → List ℕ → List ℕ
unless_answered None xs = xs
unless_answered (Some e) xs = []

-- a list up to the first of its states that has an answer
abbrev pub before_answer : {B : Type 0} → (ℕ → Option B) → List ℕ → List ℕ
before_answer answer [] = []
before_answer answer (x ∷ xs) = unless_answered (answer x) (x ∷ before_answer answer xs)

-- the answers at position k of the states in a list
abbrev pub answers_at : {B : Type 0} → (ℕ × ℕ → Option B) → ℕ → List ℕ → List B
answers_at answer k xs = answers (λ x. answer (k, x)) xs

abbrev pub first : {B : Type 0} → List B → Option B
first [] = None
first (x ∷ xs) = Some x

-- the first answer of the last list that has one, among the lists of positions k to k + d
abbrev pub latest : {B : Type 0} → (ℕ × ℕ → Option B) → (ℕ → List ℕ) → ℕ → ℕ → Option B
latest answer lists zero k = first (answers_at answer k (lists k))
latest answer lists (suc d) k = option_or (latest answer lists d (suc k)) (first (answers_at answer k (lists k)))

-- the answers at position k alone
abbrev pub only_at : {B : Type 0} → ℕ → (ℕ × ℕ → Option B) → ℕ × ℕ → Option B
only_at k answer p = if nat_eq p.0 k then answer p else None

-- an automaton with n states over a haystack of len bytes: no transition leads out of its states, and none by a byte begins at or after the
-- end
pub record IsGraph (eps step : ℕ → ℕ → List ℕ) (n len : ℕ) : Type 0 where
  pub eps_below : (k : ℕ) → StaysBelow n (eps k)
  pub step_below : (k : ℕ) → StaysBelow n (step k)
  pub text_ends : (k x : ℕ) → len ≤ k → step k x ≡ []
