-- The leftmost-first answer: the least start that has a choice, and the first of its choices. The choices at an offset
-- are pairs of a pattern's number and an end, the preferred ones first.
use Rattle.std.specs.Prelude.{◌≡◌, ℕ, zero, suc, ◌+◌, ◌-◌, ◌<◌, true, List, [], ◌∷◌, Option, Some, None, if◌then◌else◌, nat_le}
use Rattle.std.specs.Option.{option_or}
use Rattle.search_types.specs.declared.anchored.Anchored.{Anchored}
use Rattle.search_types.specs.Modes.{may_start, last_start}
use Rattle.search_types.specs.Found.{Found}

-- the first of the choices at the offset i
abbrev pub first_choice : ℕ → List (ℕ × ℕ) → Option Found
first_choice i [] = None
first_choice i (c ∷ cs) = Some (record { pattern = c.0; start = i; end = c.1 })

-- the first choice at the least of the n offsets from i on that has a choice
abbrev pub leftmost : (ℕ → List (ℕ × ℕ)) → ℕ → ℕ → Option Found
leftmost choices_at zero i = None
leftmost choices_at (suc n) i = option_or (first_choice i (choices_at i)) (leftmost choices_at n (i + 1))

-- the answer of a search from s to e in this mode; `None` if s is above e
abbrev pub leftmost_answer : (ℕ → List (ℕ × ℕ)) → Anchored → ℕ → ℕ → Option Found
leftmost_answer choices_at mode s e =
    if nat_le s e then leftmost choices_at (last_start mode s e + 1 - s) s else None

-- f is the first choice at the least offset that has one, of those at which the search may start
pub record IsLeftmost (choices_at : ℕ → List (ℕ × ℕ)) (mode : Anchored) (s e : ℕ) (f : Found) : Type 0 where
  pub starts : may_start mode s e f.start ≡ true
  pub first : first_choice f.start (choices_at f.start) ≡ Some f
  pub none_before : (i : ℕ) → may_start mode s e i ≡ true → i < f.start → choices_at i ≡ []

-- the answer by its property, rather than by a loop over the offsets
abbrev pub IsAnswer : (ℕ → List (ℕ × ℕ)) → Anchored → ℕ → ℕ → Option Found → Type 0
IsAnswer choices_at mode s e None = (i : ℕ) → may_start mode s e i ≡ true → choices_at i ≡ []
IsAnswer choices_at mode s e (Some f) = IsLeftmost choices_at mode s e f
