-- Runs in order of preference, independent of any machine. `ways` lists where each item leads, the preferred first. `answer` gives what a
-- run that ends at an item finds. A run from p is the list of what follows p.
use Rattle.std.specs.Prelude.{◌≡◌, ◌⊎◌, ℕ, List, [], ◌∷◌, Bool, true, false, Option, Some, None, if◌then◌else◌}
use Rattle.std.specs.List.{flat_map}
use Rattle.std.specs.Option.{option_to_list}
use Rattle.nfa_core.specs.Walks.{Has, distinct, chain_ends, HasNoneTwice}

-- each is one to which a way leads from the one before it
abbrev pub IsChain : {A : Type 0} → (A → A → Bool) → (A → List A) → A → List A → Type 0
IsChain same ways p [] = Unit {0}
IsChain same ways p (q ∷ r) = Has same q (ways p) × IsChain same ways q r

abbrev pub last_or : {A : Type 0} → A → List A → A
last_or p [] = p
last_or p (q ∷ r) = last_or q r

-- a run from p that finds e: a chain that visits nothing twice, and ends where e is the answer
abbrev pub IsRun : {A B : Type 0} → (A → A → Bool) → (A → List A) → (A → Option B) → A → List A → B → Type 0
IsRun same ways answer p r e = IsChain same ways p r × HasNoneTwice same (p ∷ r) × (answer (last_or p r) ≡ Some e)

-- in the list, q stands before the first other
abbrev pub comes_before : {A : Type 0} → (A → A → Bool) → A → A → List A → Bool
comes_before same q other [] = false
comes_before same q other (x ∷ xs) = if same x other then false else (if same x q then true else comes_before same q other xs)

-- Of two runs from p, the first is preferred if it takes the earlier way, or ends, at the point where they first differ.
abbrev pub IsPreferred : {A : Type 0} → (A → A → Bool) → (A → List A) → A → List A → List A → Type 0
IsPreferred same ways p [] [] = ⊥
IsPreferred same ways p [] (o ∷ s) = Unit {0}
IsPreferred same ways p (q ∷ r) [] = ⊥
IsPreferred same ways p (q ∷ r) (o ∷ s) = (comes_before same q o (ways p) ≡ true) ⊎ ((q ≡ o) × IsPreferred same ways q r s)

-- what the most preferred run from p finds; None: there is no run
abbrev pub IsMostPreferred : {A B : Type 0} → (A → A → Bool) → (A → List A) → (A → Option B) → A → Option B → Type 0
IsMostPreferred {A} {B} same ways answer p None = (s : List A) (d : B) → IsRun same ways answer p s d → ⊥
IsMostPreferred {A} {B} same ways answer p (Some e) = (r : List A) × IsRun same ways answer p r e ×
    ((s : List A) (d : B) → IsRun same ways answer p s d → (s ≡ r) ⊎ IsPreferred same ways p r s)

-- the answers at the items of a list
abbrev pub answers : {A B : Type 0} → (A → Option B) → List A → List B
answers answer xs = flat_map (λ x. option_to_list (answer x)) xs

-- What the runs from p find, the preferred ones first, with repeats dropped. No run of more than n items is followed.
abbrev pub run_ends : {A B : Type 0} → (A → A → Bool) → (B → B → Bool) → (A → List A) → (A → Option B) → ℕ → A → List B
run_ends same same_end ways answer n p = distinct same_end (answers answer (chain_ends same ways n [] p))

-- the answer, if it is one that is wanted
abbrev pub wanted_answer : {B : Type 0} → (B → Bool) → Option B → Option B
wanted_answer wanted None = None
wanted_answer wanted (Some e) = if wanted e then Some e else None
