-- The parameters of a search: the haystack, the span of it that is searched, the mode, and whether the first end that it
-- finds is enough.
use Rattle.std.specs.Prelude.{ℕ, ◌+◌, ◌≤◌, Bool, List, length}
use Rattle.search_types.specs.declared.anchored.Anchored.{Anchored}

-- of an `Input`
pub record Search : Type 0 where
  pub haystack : List ℕ
  pub start : ℕ
  pub end : ℕ
  pub anchored : Anchored
  pub earliest : Bool

-- the span rule: a search ends in the haystack, and starts at most one byte after its end
abbrev pub IsSpanOf : List ℕ → ℕ → ℕ → Type 0
IsSpanOf h start end = (end ≤ length h) × (start ≤ end + 1)

-- the rule for the span of a search
abbrev pub IsWithin : Search → Type 0
IsWithin q = IsSpanOf q.haystack q.start q.end

-- the search with another span, another mode, or another flag for whether the first end is enough
abbrev pub with_span : ℕ → ℕ → Search → Search
with_span start end q = record { haystack = q.haystack; start = start; end = end; anchored = q.anchored; earliest = q.earliest }

abbrev pub with_anchored : Anchored → Search → Search
with_anchored mode q = record { haystack = q.haystack; start = q.start; end = q.end; anchored = mode; earliest = q.earliest }

abbrev pub with_earliest : Bool → Search → Search
with_earliest wanted q = record { haystack = q.haystack; start = q.start; end = q.end; anchored = q.anchored; earliest = wanted }
