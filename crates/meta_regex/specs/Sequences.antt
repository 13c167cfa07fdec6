-- Searches for patterns that are literals and greedy rounds of classes, one after the other.
use Rattle.std.specs.Prelude.{◌≡◌, ◌⊎◌, ℕ, ◌<◌, ◌≤◌, List, length, None, Some, ⊤}
use Rattle.hir_core.specs.Tree.{Tree}
use Rattle.meta_regex.specs.declared.parts.Part.{Part}
use Rattle.meta_regex.specs.declared.parts.Part.TheVariants.{Literal, Rounds, OneOf}
use Rattle.meta_regex.specs.declared.sequences.Attempt.{Attempt}
use Rattle.meta_regex.specs.declared.sequences.Attempt.TheVariants.{Ends, Nowhere, GaveUp}
use Rattle.meta_regex.specs.declared.sequences.Sequence.{Sequence}
use Rattle.meta_regex.specs.FirstBytes.{AreFirstBytes}
use Rattle.meta_regex.specs.Parts.{AreDecided, AreParts, HasNoEndAt}
use Rattle.meta_regex.specs.Runs.{PrefersEnd}

-- the sequence's parts are this tree, and each span of it begins with a byte that is searched for
pub record IsSequenceOf (s : Sequence) (x : Tree) : Type 0 where
  pub parts : AreParts s.parts.items x
  pub decided : AreDecided s.parts.items
  pub starts : AreFirstBytes s.starts x

-- the part is rounds without a bound
abbrev pub IsUnbounded : Part → Type 0
IsUnbounded (Literal bytes) = ⊥
IsUnbounded (OneOf texts) = ⊥
IsUnbounded (Rounds run None) = ⊤
IsUnbounded (Rounds run (Some most)) = ⊥

-- the offset from which a part was read, or to which it was, if it is rounds without a bound
abbrev pub IsLastStart : Part → ℕ → ℕ → ℕ → Type 0
IsLastStart p start end last = (last ≡ start) ⊎ ((last ≡ end) × IsUnbounded p)

-- what was found at an offset: the end of the match that starts there, or up to which offset none starts
abbrev pub IsAttempt : Tree → List ℕ → ℕ → Attempt → Type 0
IsAttempt x h start (Ends end) = (start < end) × (end ≤ length h) × PrefersEnd x h start end
IsAttempt x h start (Nowhere last read) = (k : ℕ) → start ≤ k → k ≤ last → HasNoEndAt x h k
IsAttempt x h start GaveUp = ⊤

-- that offset is one of the haystack's
abbrev pub IsAttemptWithin : List ℕ → ℕ → Attempt → Type 0
IsAttemptWithin h start (Ends end) = ⊤
IsAttemptWithin h start (Nowhere last read) = (start ≤ last) × (last ≤ length h)
IsAttemptWithin h start GaveUp = ⊤
