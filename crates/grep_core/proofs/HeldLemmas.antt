-- The first bytes of a buffer, after a read.
use Rattle.std.proofs.Common.{◌≡◌, ℕ, ◌+◌, List, ◌++◌, take, drop, ap, ◌∙◌, take-add}

pub read_behind : (len n : ℕ) (xs old : List ℕ) → take len xs ≡ old → take (len + n) xs ≡ old ++ take n (drop len xs)
read_behind len n xs old same = take-add len n xs ∙ ap (λ (t : List ℕ). t ++ take n (drop len xs)) same
