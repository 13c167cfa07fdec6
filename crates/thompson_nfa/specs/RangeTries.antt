-- A trie of ranges, seen as the sequences that it emits, which ascend: at the first range in which two of them differ, the range
-- of the earlier one ends before that of the later one begins. So each string is in at most one sequence.
use Rattle.std.specs.Prelude.{◌≡◌, ◌⊎◌, ℕ, ◌<◌, ◌≤◌, ◌++◌, true, List, [], ◌∷◌}
use Rattle.hir_core.specs.Sequences.{is_in_ranges}

-- the string has a byte in each range of one of the sequences
abbrev pub IsInSome : List (List (ℕ × ℕ)) → List ℕ → Type 0
IsInSome [] s = ⊥
IsInSome (q ∷ qs) s = (is_in_ranges q s ≡ true) ⊎ IsInSome qs s

-- at the first index where they differ the one ends before the other begins
abbrev pub IsBefore : List (ℕ × ℕ) → List (ℕ × ℕ) → Type 0
IsBefore [] r = ⊥
IsBefore (a ∷ q) [] = ⊥
IsBefore (a ∷ q) (b ∷ r) = (a.1 < b.0) ⊎ ((a ≡ b) × IsBefore q r)

abbrev pub IsBeforeAll : List (ℕ × ℕ) → List (List (ℕ × ℕ)) → Type 0
IsBeforeAll q [] = Unit {0}
IsBeforeAll q (r ∷ rs) = IsBefore q r × IsBeforeAll q rs

-- no range is empty
abbrev pub AreRanges : List (ℕ × ℕ) → Type 0
AreRanges [] = Unit {0}
AreRanges (r ∷ rs) = (r.0 ≤ r.1) × AreRanges rs

-- what a trie may emit
abbrev pub IsTrie : List (List (ℕ × ℕ)) → Type 0
IsTrie [] = Unit {0}
IsTrie (q ∷ qs) = AreRanges q × IsBeforeAll q qs × IsTrie qs

-- no string of the sequences is a proper prefix of one of the ranges' strings, nor the other way round
pub record IsApart (qs : List (List (ℕ × ℕ))) (ranges : List (ℕ × ℕ)) : Type 0 where
  pub short : (s rest : List ℕ) → IsInSome qs s → is_in_ranges ranges (s ++ rest) ≡ true → rest ≡ []
  pub long : (s rest : List ℕ) → is_in_ranges ranges s ≡ true → IsInSome qs (s ++ rest) → rest ≡ []

-- the strings of the new sequences are those of the old ones and those of the ranges
pub record IsWith (old : List (List (ℕ × ℕ))) (ranges : List (ℕ × ℕ)) (new : List (List (ℕ × ℕ))) : Type 0 where
  pub only : (s : List ℕ) → IsInSome new s → IsInSome old s ⊎ (is_in_ranges ranges s ≡ true)
  pub kept : (s : List ℕ) → IsInSome old s → IsInSome new s
  pub added : (s : List ℕ) → is_in_ranges ranges s ≡ true → IsInSome new s
