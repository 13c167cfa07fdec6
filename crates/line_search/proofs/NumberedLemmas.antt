-- The names of the groups of patterns.
use Rattle.std.proofs.Common.{◌≡◌, ℕ, zero, suc, ◌+◌, ◌<◌, List, [], ◌∷◌, ◌++◌, length, take, map, not, slice_get, slice_index_or, chars, Option, Some, None, if◌then◌else◌}
use Rattle.std.proofs.Common.{IsSomeAnd, refl, sym, ap, ◌∙◌, arith}
use Rattle.std.specs.Borrow.{Bor}
use Rattle.std.proofs.lemmas.Option.{get_or_from_slice_get}
use Rattle.std.specs.Prelude.{is_some}
use Rattle.regex_hir.specs.Re.{Re, accept, attempt}
use Rattle.regex_syntax.specs.Brackets.{Nested}
use Rattle.regex_syntax.specs.Grammar.{Names, read}
use Rattle.regex_syntax.specs.declared.Config.{Config}
use Rattle.pattern_fallback.specs.Fallbacks.{first_at}
use Rattle.pattern_search.proofs.ForCallers.{read_texts}
use Rattle.group_finder.specs.Patterns.{IsNamedBy}
use Rattle.templates.specs.Expansion.{names_in, names_of_read}
use Rattle.line_search.specs.Bounded.{bounded}
use Rattle.line_search.specs.Meant.{line_config}
use Rattle.line_search.specs.Replacing.{all_names, names_at, pattern_at}
use Rattle.line_search.specs.declared.patterns.PatternOptions.{PatternOptions}

-- ---- names
known_of : (names : Names) (r : Option (Nested Re × Names)) → IsSomeAnd r (λ (re, found). names ≡ found) → names ≡ names_of_read r
known_of names None h = absurd h
known_of names (Some found) h = h

pub names_known : (config : Config) (text : List ℕ) (names : Names) → IsNamedBy config text names → names ≡ names_in config text
names_known config text names named = known_of names (read config (chars text)) named

next_names : (how : PatternOptions) (ts : List (Bor (List ℕ))) (d : Bor (List ℕ)) (n : ℕ) → n < length ts →
    all_names how (take n (read_texts ts)) ++ names_in (line_config how) (slice_index_or ts n d).now ∷ []
    ≡ all_names how (take (suc n) (read_texts ts))
next_names how [] d n below = absurd (omega (arith, below))
next_names how (t ∷ ts) d zero below = refl
next_names how (t ∷ ts) d (suc n) below =
    ap (λ (ns : List Names). names_in (line_config how) t.now ∷ ns) (next_names how ts d n (omega (arith, below)))

-- one more pattern has its names
pub one_more_names : (how : PatternOptions) (ts : List (Bor (List ℕ))) (d : Bor (List ℕ)) (n : ℕ) (old new : List Names) (names : Names) →
    n < length ts → new ≡ old ++ names ∷ [] → old ≡ all_names how (take n (read_texts ts)) →
    names ≡ names_in (line_config how) (slice_index_or ts n d).now → new ≡ all_names how (take (n + 1) (read_texts ts))
one_more_names how ts d n old new names below is so own =
    let step : suc n ≡ n + 1 = omega arith in
    is
    ∙ ap (λ (ns : List Names). ns ++ names ∷ []) so
    ∙ ap (λ (own : Names). all_names how (take n (read_texts ts)) ++ own ∷ []) own
    ∙ next_names how ts d n below
    ∙ ap (λ k. all_names how (take k (read_texts ts))) step

-- ---- the pattern that matches from an offset
pub first_is : (how : PatternOptions) (res : List Re) (line : List ℕ) (i : ℕ) → first_at (map (bounded how) res) line i ≡ pattern_at how res line i
unfolding first_at pattern_at
first_is how [] line i = refl
first_is how (a ∷ res) line i = ap (λ n. if not (is_some (attempt line (bounded how a) accept i)) then 1 + n else 0) (first_is how res line i)

-- ---- the greatest number of groups
pub names_there : (how : PatternOptions) (names : List Names) (res : List Re) (line : List ℕ) (start k : ℕ) (own : Names) →
    k ≡ pattern_at how res line start → slice_get names k ≡ Some own → own ≡ names_at how names res line start
names_there how names res line start k own is listed =
    sym (get_or_from_slice_get names k own [] listed) ∙ ap (λ n. slice_index_or names n []) is
