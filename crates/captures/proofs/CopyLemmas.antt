-- Groups that are replaced by copies, one by one.
use Rattle.std.proofs.Common.{◌≡◌, ℕ, ◌+◌, ◌<◌, ◌≤◌, List, [], ◌∷◌, ◌++◌, length, drop, get_or, sym, ap, ◌∙◌, subst, append-nil, append_assoc, drop_of_length-le}
use Rattle.std.proofs.lemmas.List.{drop_more}
use Rattle.regex_syntax.specs.declared.Config.{Config}
use Rattle.captures.specs.declared.pattern_groups.PatternGroups.{PatternGroups}
use Rattle.captures.specs.Patterns.{IsPatternGroups, ArePatternGroups}

-- a copy that is of each pattern of which the original is
one_copied : (config : Config) (ts : List (List ℕ)) (made : List PatternGroups) (p q : PatternGroups) (rest : List PatternGroups) →
    ((t : List ℕ) → IsPatternGroups config t p → IsPatternGroups config t q) → ArePatternGroups config ts (made ++ p ∷ rest) →
    ArePatternGroups config ts (made ++ q ∷ rest)
one_copied config [] [] p q rest kept of = absurd of
one_copied config (t ∷ ts) [] p q rest kept of = (kept t of.0, of.1)
one_copied config [] (m ∷ made) p q rest kept of = absurd of
one_copied config (t ∷ ts) (m ∷ made) p q rest kept of = (of.0, one_copied config ts made p q rest kept of.1)

pub one_more_copied : (config : Config) (ts : List (List ℕ)) (all made new : List PatternGroups) (i : ℕ) (p q : PatternGroups) →
    i < length all → p ≡ get_or all i p → new ≡ made ++ q ∷ [] → ((t : List ℕ) → IsPatternGroups config t p → IsPatternGroups config t q) →
    ArePatternGroups config ts (made ++ drop i all) → ArePatternGroups config ts (new ++ drop (i + 1) all)
one_more_copied config ts all made new i p q inside is more kept of =
    let first : drop i all ≡ p ∷ drop (i + 1) all = drop_more all i p inside ∙ ap (λ x. x ∷ drop (i + 1) all) (sym is) in
    subst (ArePatternGroups config ts)
    (sym (append_assoc made (q ∷ []) (drop (i + 1) all)) ∙ ap (λ (l : List PatternGroups). l ++ drop (i + 1) all) (sym more))
    (one_copied config ts made p q (drop (i + 1) all) kept
    (subst (λ (l : List PatternGroups). ArePatternGroups config ts (made ++ l)) first of))

pub all_copied : (config : Config) (ts : List (List ℕ)) (all made : List PatternGroups) (i : ℕ) → length all ≤ i →
    ArePatternGroups config ts (made ++ drop i all) → ArePatternGroups config ts made
all_copied config ts all made i past of =
    subst (ArePatternGroups config ts) (ap (λ (l : List PatternGroups). made ++ l) (drop_of_length-le all past) ∙ append-nil made) of
