-- Classes of scalars in a trie of ranges. Each sequence is reversed, as an automaton that reads in reverse meets its bytes.
use Rattle.std.specs.Prelude.{◌⊎◌, ℕ, ◌<◌, ◌≤◌, List, [], ◌∷◌, map, reverse, length}
use Rattle.thompson_nfa.specs.RangeTries.{IsInSome}

-- each of the sequences, its last range first
abbrev pub turned_round : List (List (ℕ × ℕ)) → List (List (ℕ × ℕ))
turned_round ss = map reverse ss

-- the sequences have the strings of the others, reversed, and no more
pub record HasTurned (qs ss : List (List (ℕ × ℕ))) : Type 0 where
  pub only : (s : List ℕ) → IsInSome qs s → IsInSome (turned_round ss) s
  pub kept : (s : List ℕ) → IsInSome (turned_round ss) s → IsInSome qs s

-- the new sequences have the strings of the old ones, and those of the others, reversed
pub record GainsTurned (old ss new : List (List (ℕ × ℕ))) : Type 0 where
  pub only : (s : List ℕ) → IsInSome new s → IsInSome old s ⊎ IsInSome (turned_round ss) s
  pub kept : (s : List ℕ) → IsInSome old s → IsInSome new s
  pub added : (s : List ℕ) → IsInSome (turned_round ss) s → IsInSome new s

-- bytes that continue a spelling, and then one that begins it
abbrev pub IsTurnedSpelling : List ℕ → Type 0
IsTurnedSpelling [] = ⊥
IsTurnedSpelling (b ∷ []) = (b < 128) ⊎ (192 ≤ b)
IsTurnedSpelling (b ∷ d ∷ s) = (128 ≤ b) × (b < 192) × IsTurnedSpelling (d ∷ s)

-- all strings of the sequences are such
abbrev pub AreTurnedSpellings : List (List (ℕ × ℕ)) → Type 0
AreTurnedSpellings qs = (s : List ℕ) → IsInSome qs s → IsTurnedSpelling s

-- each range ends at a byte
abbrev pub AreByteRanges : List (ℕ × ℕ) → Type 0
AreByteRanges [] = Unit {0}
AreByteRanges (r ∷ q) = (r.1 < 256) × AreByteRanges q

-- one to four ranges of bytes
abbrev pub IsShortSequence : List (ℕ × ℕ) → Type 0
IsShortSequence q = (1 ≤ length q) × (length q ≤ 4) × AreByteRanges q
