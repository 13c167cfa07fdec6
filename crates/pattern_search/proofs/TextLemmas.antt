-- Patterns whose trees are made one by one.
use Rattle.std.proofs.Common.{◌≡◌, ℕ, zero, suc, ◌+◌, ◌<◌, ◌≤◌, List, [], ◌∷◌, ◌++◌, map, length, take, slice_get, slice_index_or, Some}
use Rattle.std.proofs.Common.{Bor, All, refl, sym, ap, subst, arith}
use Rattle.std.proofs.lemmas.List.Elements.{All-append, All-cons}
use Rattle.regex_syntax.specs.declared.Config.{Config}
use Rattle.hir_core.specs.Tree.{Tree}
use Rattle.pattern_text.specs.declared.parse_error.ParseError.{ParseError}
use Rattle.pattern_text.specs.Patterns.{MeansText, IsFault}
use Rattle.pattern_search.specs.Texts.{AllMean, IsFirstFault}

-- the patterns that references refer to
abbrev pub read_texts : List (Bor (List ℕ)) → List (List ℕ)
read_texts = map (λ (t : Bor (List ℕ)). t.now)

listed_text : (ts : List (Bor (List ℕ))) (d : Bor (List ℕ)) (n : ℕ) → n < length ts →
    slice_get (read_texts ts) n ≡ Some (slice_index_or ts n d).now
listed_text [] d n below = absurd (omega arith)
listed_text (t ∷ ts) d zero below = refl
listed_text (t ∷ ts) d (suc n) below = listed_text ts d n (omega arith)

next_means : (config : Config) (ts : List (Bor (List ℕ))) (d : Bor (List ℕ)) (n : ℕ) (xs : List Tree) (x : Tree) → n < length ts →
    AllMean config (take n (read_texts ts)) xs → MeansText config (slice_index_or ts n d).now x →
    AllMean config (take (suc n) (read_texts ts)) (xs ++ x ∷ [])
next_means config [] d n xs x below m means = absurd (omega arith)
next_means config (t ∷ ts) d zero [] x below m means = (means, tt)
next_means config (t ∷ ts) d zero (y ∷ ys) x below m means = absurd m
next_means config (t ∷ ts) d (suc n) [] x below m means = absurd m
next_means config (t ∷ ts) d (suc n) (y ∷ ys) x below m means = (m.0, next_means config ts d n ys x (omega arith) m.1 means)

-- one more pattern has its tree
pub one_more_means : (config : Config) (ts : List (Bor (List ℕ))) (d : Bor (List ℕ)) (n : ℕ) (old new : List Tree) (x : Tree) →
    n < length ts →
    new ≡ old ++ x ∷ [] → AllMean config (take n (read_texts ts)) old → MeansText config (slice_index_or ts n d).now x →
    AllMean config (take (n + 1) (read_texts ts)) new
one_more_means config ts d n old new x below is m means =
    let step : suc n ≡ n + 1 = omega arith in
    subst (λ k. AllMean config (take k (read_texts ts)) new) step
    (subst (AllMean config (take (suc n) (read_texts ts))) (sym is) (next_means config ts d n old x below m means))

take_all : (ts : List (Bor (List ℕ))) (n : ℕ) → length ts ≤ n → take n (read_texts ts) ≡ read_texts ts
take_all [] zero above = refl
take_all [] (suc n) above = refl
take_all (t ∷ ts) zero above = absurd (omega arith)
take_all (t ∷ ts) (suc n) above = ap (λ us. t.now ∷ us) (take_all ts n (omega arith))

-- all patterns have their trees
pub all_mean : (config : Config) (ts : List (Bor (List ℕ))) (n : ℕ) (xs : List Tree) → length ts ≤ n →
    AllMean config (take n (read_texts ts)) xs →
    AllMean config (read_texts ts) xs
all_mean config ts n xs above m = subst (λ us. AllMean config us xs) (take_all ts n above) m

-- what holds of the trees so far, and of one more
pub one_more_holds : (P : Tree → Type 0) (old new : List Tree) (x : Tree) → new ≡ old ++ x ∷ [] → All P old → P x → All P new
one_more_holds P old new x is each here = subst (All P) (sym is) (All-append P old (x ∷ []) each
    (All-cons P x [] here (λ k d below. absurd (omega (arith, below)))))

-- the first pattern that is rejected
pub first_fault : (config : Config) (ts : List (Bor (List ℕ))) (d : Bor (List ℕ)) (n : ℕ) (xs : List Tree) (e : ParseError) →
    n < length ts →
    AllMean config (take n (read_texts ts)) xs → IsFault config (slice_index_or ts n d).now e → IsFirstFault config (read_texts ts) n e
first_fault config ts d n xs e below m fault =
    record { text = (slice_index_or ts n d).now; listed = listed_text ts d n below; fault = fault; trees = xs; before = m }
