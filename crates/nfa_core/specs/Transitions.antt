-- Where a byte leads from a state that reads one.
use Rattle.std.specs.Prelude.{ℕ, zero, suc, Bool, false, List, [], ◌∷◌, slice_index, Option, Some, None, if◌then◌else◌}
use Rattle.std.specs.Int.{is_in_range}
use Rattle.nfa_core.specs.declared.transition.Transition.{Transition}

-- whether there is a byte and it lies in the range
abbrev pub has_byte : ℕ → ℕ → Option ℕ → Bool
has_byte low high None = false
has_byte low high (Some b) = is_in_range low high b

-- the first and the last byte of the range, and the state to which it leads
abbrev pub range_of : Transition → ℕ × ℕ × ℕ
range_of t = (t.start, t.end, t.next)

-- where the first range that has the byte leads
abbrev pub sparse_next : List (ℕ × ℕ × ℕ) → ℕ → Option ℕ
sparse_next [] b = None
sparse_next ((low, high, next) ∷ others) b = if is_in_range low high b then Some next else sparse_next others b

-- a name but 0, which stands for none
abbrev pub name_or_none : ℕ → Option ℕ
name_or_none zero = None
name_or_none (suc q) = Some (suc q)

-- where a table with a name for each byte leads
abbrev pub dense_next : List ℕ → ℕ → Option ℕ
dense_next names b = name_or_none (slice_index names b)
