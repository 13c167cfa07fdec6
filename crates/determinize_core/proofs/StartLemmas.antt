-- A table of starts that is filled from the first byte on.
use Rattle.std.proofs.Common.{◌≡◌, ℕ, ◌+◌, ◌<◌, ◌≢◌, List, length, slice_set, arith, get_or-set_same, get_or-set_other, below_more}
use Rattle.determinize_core.specs.Starts.{start_by_table}
use Rattle.determinize_core.specs.declared.start.Start.{Start}

-- the bytes below n have their starts
abbrev pub IsFilledTo : (ℕ → Start) → List Start → ℕ → Type 0
IsFilledTo f table n = (b : ℕ) → b < n → start_by_table table b ≡ f b

pub filled_more : (f : ℕ → Start) (table : List Start) (n : ℕ) (s : Start) → n < length table → IsFilledTo f table n → s ≡ f n →
    IsFilledTo f (slice_set table n s) (n + 1)
filled_more f table n s lt filled e =
    below_more _ _
    (λ k h. let ne : k ≢ n = omega arith in rw get_or-set_other (filled k h))
    (rw get_or-set_same e)
