-- A half search (`half_search`), as a function of values without a cache. It consists of scans from single offsets (`scan`),
-- the first at its start.
use Rattle.std.specs.Prelude.{ℕ, zero, suc, ◌-◌, Bool, true, false, List, Some, None, if◌then◌else◌, nat_le}
use Rattle.search_types.specs.declared.anchored.Anchored.{Anchored}
use Rattle.search_types.specs.Modes.{is_anchored}
use Rattle.search_types.specs.Inputs.{Search}
use Rattle.search_types.specs.Places.{counts}
use Rattle.lazy_dfa.specs.Readers.{Reader, HalfAnswer, found, quit, unsupported}
use Rattle.lazy_dfa.specs.Scans.{next_offset, scan}

-- the first answer, unless it is an end that doesn't count: then the other answer
abbrev pub unless_split : (ℕ → Bool) → HalfAnswer → HalfAnswer → HalfAnswer
unless_split counted (quit b x) other = quit b x
unless_split counted (unsupported mode) other = unsupported mode
unless_split counted (found None) other = found None
unless_split counted (found (Some e)) other = if counted e.0 then found (Some e) else other

-- A scan from offset i over n bytes. While its end doesn't count, another scan follows, from the next offset over one
-- byte less.
abbrev pub rescans : Reader → Anchored → Bool → List ℕ → ℕ → ℕ → HalfAnswer
rescans r mode earliest h zero i = unless_split (counts r.between_characters h) (scan r mode earliest h zero i) (found None)
rescans r mode earliest h (suc n) i =
    unless_split (counts r.between_characters h) (scan r mode earliest h (suc n) i) (rescans r mode earliest h n (next_offset r i))

-- the offset at which a search through the bytes from s to e begins, forward or in reverse
abbrev pub first_offset : Bool → ℕ → ℕ → ℕ
first_offset false s e = s
first_offset true s e = e

-- If the end of an unanchored search doesn't count, the search restarts. An anchored search finds nothing then.
abbrev pub begun_at : Reader → Anchored → Bool → List ℕ → ℕ → ℕ → HalfAnswer
begun_at r mode earliest h n i =
    if is_anchored mode
    then unless_split (counts r.between_characters h) (scan r mode earliest h n i) (found None)
    else rescans r mode earliest h n i

-- The result of a half search over the bytes from its start to its end. If its start is above its end, the search is
-- done: it finds nothing, and looks at no byte.
abbrev pub half_search : Reader → Search → HalfAnswer
half_search r q =
    if nat_le q.start q.end
    then begun_at r q.anchored q.earliest q.haystack (q.end - q.start) (first_offset r.automaton.reverse q.start q.end)
    else found None
