-- Patterns whose trees are made one by one, some of them as the literal of the text of which the pattern is the escape.
use Rattle.std.proofs.Common.{◌≡◌, ℕ, zero, suc, ◌+◌, ◌<◌, ◌≤◌, List, [], ◌∷◌, ◌++◌, length, take, slice_get, slice_index_or, Option, Some, None}
use Rattle.std.proofs.Common.{Bor, IsSomeAnd, chars, false, option_map, refl, sym, ap, ◌∙◌, subst, arith}
use Rattle.regex_hir.specs.Re.{Re, attempt, literal as re_literal}
use Rattle.regex_syntax.specs.declared.Config.{Config}
use Rattle.regex_syntax.specs.Brackets.{Nested}
use Rattle.regex_syntax.specs.Captures.{outcome, SameCaptures}
use Rattle.regex_syntax.specs.Grammar.{Names, read}
use Rattle.regex_syntax.specs.Verdict.{ReadsAsText}
use Rattle.hir_core.specs.Tree.{Tree, literal}
use Rattle.pattern_text.specs.declared.parse_error.ParseError.{ParseError}
use Rattle.pattern_text.specs.Patterns.{MeansText, IsFault}
use Rattle.pattern_text.specs.SameEnds.{trace_end, SameEnds, SameSpans, HasNames}
use Rattle.pattern_text.proofs.ForCallers.{spans_of_ends}
use Rattle.pattern_search.proofs.ForCallers.{read_texts}
use Rattle.pattern_search.specs.Texts.{AllMean, IsFirstFault}

outcome_ends : (o : Option _) → option_map (λ (p : ℕ × (ℕ → Option ℕ)). p.0) (outcome o) ≡ trace_end o
unfolding outcome
outcome_ends None = refl
outcome_ends (Some t) = refl

-- patterns of which a caller sees the same prefer the same ends
ends_alike : (a b : Re) (x : Tree) → SameCaptures a b → SameEnds b x → SameEnds a x
ends_alike a b x same s = record {
  at = λ h bytes loops k i within.
      sym (outcome_ends (attempt h a k i)) ∙ ap (option_map (λ (p : ℕ × (ℕ → Option ℕ)). p.0)) (same.at h bytes k i)
      ∙ outcome_ends (attempt h b k i) ∙ s.at h bytes loops k i within;
}

literal_meant : (config : Config) (text : List ℕ) (r : Option (Nested Re × Names)) → 1 ≤ config.nest_limit →
    SameEnds (re_literal text) (literal text) →
    IsSomeAnd r (λ (re, names). (re.depth ≤ 1) × SameCaptures re.value (re_literal text) × (names ≡ None ∷ [])) →
    IsSomeAnd r (λ (re, names). (re.depth ≤ config.nest_limit) × SameEnds re.value (literal text) × SameSpans re.value (literal text)
    × HasNames names (literal text))
literal_meant config text None some same r = absurd r
literal_meant config text (Some (re, names)) some same r =
    let ends : SameEnds re.value (literal text) = ends_alike re.value (re_literal text) (literal text) r.1 same in
    (omega (arith, r.0, some), ends, spans_of_ends re.value (literal text) tt ends, tt)

-- a pattern that is the escape of a text means the literal of that text
pub escape_meant : (config : Config) (pattern text : List ℕ) (x : Tree) → 1 ≤ config.nest_limit →
    config.flags.case_insensitive ≡ false → config.flags.ignore_whitespace ≡ false → ReadsAsText pattern text →
    SameEnds (re_literal text) (literal text) → x ≡ literal text → MeansText config pattern x
unfolding ReadsAsText MeansText
escape_meant config pattern text x some exact plain reads same is =
    subst (MeansText config pattern) (sym is) (literal_meant config text (read config (chars pattern)) some same (reads config exact plain))

listed_text : (ts : List (Bor (List ℕ))) (d : Bor (List ℕ)) (n : ℕ) → n < length ts →
    slice_get (read_texts ts) n ≡ Some (slice_index_or ts n d).now
listed_text [] d n below = absurd (omega arith)
listed_text (t ∷ ts) d zero below = refl
listed_text (t ∷ ts) d (suc n) below = listed_text ts d n (omega arith)

next_means : (config : Config) (ts : List (Bor (List ℕ))) (d : Bor (List ℕ)) (n : ℕ) (xs : List Tree) (x : Tree) → n < length ts →
    AllMean config (take n (read_texts ts)) xs → MeansText config (slice_index_or ts n d).now x →
    AllMean config (take (suc n) (read_texts ts)) (xs ++ x ∷ [])
next_means config [] d n xs x below m means = absurd (omega arith)
next_means config (t ∷ ts) d zero [] x below m means = (means, tt)
next_means config (t ∷ ts) d zero (y ∷ ys) x below m means = absurd m
next_means config (t ∷ ts) d (suc n) [] x below m means = absurd m
next_means config (t ∷ ts) d (suc n) (y ∷ ys) x below m means = (m.0, next_means config ts d n ys x (omega arith) m.1 means)

-- one more pattern has its tree
pub one_more_means : (config : Config) (ts : List (Bor (List ℕ))) (d : Bor (List ℕ)) (n : ℕ) (old new : List Tree) (x : Tree) →
    n < length ts →
    new ≡ old ++ x ∷ [] → AllMean config (take n (read_texts ts)) old → MeansText config (slice_index_or ts n d).now x →
    AllMean config (take (n + 1) (read_texts ts)) new
one_more_means config ts d n old new x below is m means =
    let step : suc n ≡ n + 1 = omega arith in
    subst (λ k. AllMean config (take k (read_texts ts)) new) step
    (subst (AllMean config (take (suc n) (read_texts ts))) (sym is) (next_means config ts d n old x below m means))

take_all : (ts : List (Bor (List ℕ))) (n : ℕ) → length ts ≤ n → take n (read_texts ts) ≡ read_texts ts
take_all [] zero above = refl
take_all [] (suc n) above = refl
take_all (t ∷ ts) zero above = absurd (omega arith)
take_all (t ∷ ts) (suc n) above = ap (λ us. t.now ∷ us) (take_all ts n (omega arith))

-- all patterns have their trees
pub all_mean : (config : Config) (ts : List (Bor (List ℕ))) (n : ℕ) (xs : List Tree) → length ts ≤ n →
    AllMean config (take n (read_texts ts)) xs →
    AllMean config (read_texts ts) xs
all_mean config ts n xs above m = subst (λ us. AllMean config us xs) (take_all ts n above) m

-- the first pattern that is rejected
pub first_fault : (config : Config) (ts : List (Bor (List ℕ))) (d : Bor (List ℕ)) (n : ℕ) (xs : List Tree) (e : ParseError) →
    n < length ts →
    AllMean config (take n (read_texts ts)) xs → IsFault config (slice_index_or ts n d).now e → IsFirstFault config (read_texts ts) n e
first_fault config ts d n xs e below m fault =
    record { text = (slice_index_or ts n d).now; listed = listed_text ts d n below; fault = fault; trees = xs; before = m }
