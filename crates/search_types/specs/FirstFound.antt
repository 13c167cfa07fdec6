-- Offsets that each offer a list: the first of all offers, in the order of the offsets.
use Rattle.std.specs.Prelude.{◌≡◌, ℕ, zero, suc, ◌+◌, ◌<◌, ◌≤◌, List, [], ◌∷◌, Option, Some, None}

-- so many offsets from i on
abbrev pub offsets_from : ℕ → ℕ → List ℕ
offsets_from i zero = []
offsets_from i (suc n) = i ∷ offsets_from (suc i) n

-- the first of a list
abbrev pub first_of : {A : Type 0} → List A → Option A
first_of [] = None
first_of (x ∷ xs) = Some x

-- c is the first offer of the least of the n offsets from i on that has one
pub record IsFirstAt {A : Type 0} (offers : ℕ → List A) (i n : ℕ) (c : A) : Type 0 where
  pub place : ℕ
  pub from : i ≤ place
  pub below : place < i + n
  pub others : List A
  pub here : offers place ≡ c ∷ others
  pub none_before : (k : ℕ) → i ≤ k → k < place → offers k ≡ []

-- `Some c`: c is this first offer; `None`: none of these offsets offers anything
abbrev pub IsFirstOffer : {A : Type 0} → (ℕ → List A) → ℕ → ℕ → Option A → Type 0
IsFirstOffer offers i n None = (k : ℕ) → i ≤ k → k < i + n → offers k ≡ []
IsFirstOffer offers i n (Some c) = IsFirstAt offers i n c
