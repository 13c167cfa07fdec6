-- What parsed patterns mean.
use Rattle.std.proofs.Common.{◌≡◌, ℕ, zero, suc, ◌+◌, ◌<◌, ◌≤◌, List, [], ◌∷◌, ◌++◌, Bor, length, map, take, slice_index_or, chars}
use Rattle.std.proofs.Common.{Option, Some, None, subst, sym, arith}
use Rattle.std.specs.Prelude.{IsSomeAnd}
use Rattle.regex_hir.specs.Meaning.{meaning}
use Rattle.regex_hir.specs.Re.{Re}
use Rattle.regex_hir.specs.declared.hir.Hir.{Hir}
use Rattle.regex_syntax.specs.Brackets.{Nested}
use Rattle.regex_syntax.specs.Captures.{SameCaptures}
use Rattle.regex_syntax.specs.Grammar.{Names, group_count, read}
use Rattle.regex_syntax.specs.Verdict.{Reads}
use Rattle.regex_syntax.specs.declared.Config.{Config}
use Rattle.pattern_fallback.specs.Fallbacks.{AreParsedOf, IsParsedOf}

-- the bytes of patterns
abbrev pub bytes_of : List (Bor (List ℕ)) → List (List ℕ)
bytes_of = map (λ (t : Bor (List ℕ)). t.now)

pub parsed_of : (config : Config) (t : List ℕ) (hir : Hir) (names : Names) → Reads config t hir names → IsParsedOf config t hir
unfolding Reads
parsed_of config t hir names reads re found = by (read config (chars t)) reads found
  where
    by : (r : Option (Nested Re × Names)) →
        IsSomeAnd r (λ (x, found). (x.depth ≤ config.nest_limit) × SameCaptures (meaning hir) x.value × (names ≡ found) ×
        (group_count (meaning hir) ≤ length names)) →
        IsSomeAnd r (λ (x, found). (x.depth ≤ config.nest_limit) × (x.value ≡ re)) → SameCaptures (meaning hir) re
    by None p q = absurd p
    by (Some (x, found)) p q = subst (SameCaptures (meaning hir)) q.1 p.1

next_parsed : (config : Config) (ts : List (Bor (List ℕ))) (d : Bor (List ℕ)) (n : ℕ) (xs : List Hir) (x : Hir) → n < length ts →
    AreParsedOf config (take n (bytes_of ts)) xs → IsParsedOf config (slice_index_or ts n d).now x →
    AreParsedOf config (take (suc n) (bytes_of ts)) (xs ++ x ∷ [])
next_parsed config [] d n xs x below p q = absurd (omega (arith, below))
next_parsed config (t ∷ ts) d zero [] x below p q = (q, tt)
next_parsed config (t ∷ ts) d zero (y ∷ xs) x below p q = absurd p
next_parsed config (t ∷ ts) d (suc n) [] x below p q = absurd p
next_parsed config (t ∷ ts) d (suc n) (y ∷ xs) x below p q = (p.0, next_parsed config ts d n xs x (omega (arith, below)) p.1 q)

-- one more pattern is parsed
pub one_more_parsed : (config : Config) (ts : List (Bor (List ℕ))) (d : Bor (List ℕ)) (n : ℕ) (old new : List Hir) (x : Hir) →
    n < length ts → new ≡ old ++ x ∷ [] → AreParsedOf config (take n (bytes_of ts)) old →
    IsParsedOf config (slice_index_or ts n d).now x → AreParsedOf config (take (n + 1) (bytes_of ts)) new
one_more_parsed config ts d n old new x below is p q =
    let step : suc n ≡ n + 1 = omega arith in
    subst (λ k. AreParsedOf config (take k (bytes_of ts)) new) step
    (subst (AreParsedOf config (take (suc n) (bytes_of ts))) (sym is) (next_parsed config ts d n old x below p q))
