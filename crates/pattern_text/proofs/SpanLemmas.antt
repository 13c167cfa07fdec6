-- Patterns and trees that have the same spans: single ones, and how they are joined.
use Rattle.std.proofs.Common.{◌≡◌, ◌↔◌, ℕ, ◌<◌, ◌≤◌, ◌==◌, List, [], ◌∷◌, length, Option, Some, None, IsSome, is_some, All, refl, sym, ap}
use Rattle.std.proofs.Common.{◌∙◌, subst, arith, inl, inr, ⊎_elim, if◌then◌else◌, eqb-true, eq-eqb, true≢false}
use Rattle.std.proofs.lemmas.Bool.{cond-true}
use Rattle.regex_hir.specs.Re.{Re, Trace, Rest, accept, attempt}
use Rattle.regex_hir.specs.Re as re
use Rattle.regex_hir.specs.Matches.{Matches}
use Rattle.regex_hir.proofs.AttemptLemmas.{attempt_sound, attempt_complete, cond_some}
use Rattle.regex_hir.proofs.OptionLemmas.{value_of_IsSome, IsSome-of_value, IsSome-option_or_left, IsSome-option_or_right, option_or_cases}
use Rattle.regex_hir.proofs.MatchesLemmas.{Matches-IsSpan}
use Rattle.regex_syntax.specs.Captures.{outcome, SameCaptures}
use Rattle.hir_core.specs.Tree.{Tree}
use Rattle.hir_core.specs.Tree as tree
use Rattle.hir_core.specs.Facts.{LoopsRead}
use Rattle.hir_core.specs.PreferredEnds.{preferred_ends, Has}
use Rattle.hir_core.proofs.ForCallers.{preferred_ends_sound, preferred_ends_complete, span_within}
use Rattle.pattern_text.specs.SameEnds.{pattern_looks, trace_end, first_that_goes_on, SameEnds, SameSpans}

-- ---- a span is an end that what follows takes, and no other
-- what follows takes one offset alone
abbrev only : ℕ → Rest
only j l = if l == j then accept l else None

only_here : (j : ℕ) → IsSome (only j j)
only_here j = IsSome-of_value (only j j) _ (cond-true (j == j) (accept j) None (eq-eqb j j refl))

only_there : (j l : ℕ) (t : Trace) → only j l ≡ Some t → l ≡ j
only_there j l t e = eqb-true l j (cond_some (l == j) (accept l) t e).0

some_end : (o : Option Trace) → is_some (trace_end o) ≡ is_some o
some_end None = refl
some_end (Some t) = refl

-- an outcome exists if a trace does
pub some_outcome : (o : Option Trace) → is_some (outcome o) ≡ is_some o
unfolding outcome
some_outcome None = refl
some_outcome (Some t) = refl

-- one of the ends is the offset if and only if what follows takes one
first_has : (j : ℕ) (ends : List ℕ) → IsSome (first_that_goes_on (λ l. trace_end (only j l)) ends) → Has ends j
first_has j [] h = absurd (true≢false (sym h))
first_has j (l ∷ ends) h =
    let v = value_of_IsSome _ h in
    ⊎_elim
    (λ here. let t = value_of_IsSome (only j l) (sym (some_end (only j l)) ∙ IsSome-of_value _ v.0 here) in inl (only_there j l t.0 t.1))
    (λ later. inr (first_has j ends (IsSome-of_value _ v.0 later.1)))
    (option_or_cases (trace_end (only j l)) (first_that_goes_on (λ l. trace_end (only j l)) ends) v.0 v.1)

has_first : (j : ℕ) (ends : List ℕ) → Has ends j → IsSome (first_that_goes_on (λ l. trace_end (only j l)) ends)
has_first j [] h = absurd h
has_first j (l ∷ ends) h =
    ⊎_elim
    (λ (here : l ≡ j). IsSome-option_or_left (trace_end (only j l)) _ (some_end (only j l)
    ∙ subst (λ m. IsSome (only j m)) (sym here) (only_here j)))
    (λ later. IsSome-option_or_right (trace_end (only j l)) _ (has_first j ends later))
    h

matched : (h : List ℕ) (a : Re) (i j : ℕ) → IsSome (attempt h a (only j) i) → Matches h a i j
matched h a i j some =
    let v = value_of_IsSome (attempt h a (only j) i) some in
    let c = attempt_sound h a (only j) i v.0 v.1 in
    subst (Matches h a i) (only_there j c.at c.rest c.gave) c.leads

attempted : (h : List ℕ) (a : Re) (i j : ℕ) → Matches h a i j → IsSome (attempt h a (only j) i)
attempted h a i j m = attempt_complete h a (only j) i j m (only_here j)

-- patterns of which a caller sees the same have the same spans
pub matches_along : (a b : Re) → SameCaptures a b → (h : List ℕ) → All (λ x. x < 256) h → (i j : ℕ) → Matches h a i j ↔ Matches h b i j
matches_along a b same h bytes i j =
    let both : is_some (attempt h a (only j) i) ≡ is_some (attempt h b (only j) i) =
    sym (some_outcome (attempt h a (only j) i)) ∙ ap is_some (same.at h bytes (only j) i) ∙ some_outcome (attempt h b (only j) i) in (
      λ m. matched h b i j (sym both ∙ attempted h a i j m),
      λ m. matched h a i j (both ∙ attempted h b i j m),
    )

pub spans_of_captures : (a b : Re) (x : Tree) → SameCaptures a b → SameSpans a x → SameSpans b x
spans_of_captures a b x same s = record {
  at = λ h bytes i j within.
      let p = matches_along a b same h bytes i j in
      let q = s.at h bytes i j within in
      (λ m. q.0 (p.1 m), λ m. p.0 (q.1 m));
}

-- if the body of every unbounded repetition consumes at least one byte, the same ends are the same spans; the leaves of trees have no loops
pub spans_of_ends : (a : Re) (x : Tree) → LoopsRead x → SameEnds a x → SameSpans a x
spans_of_ends a x loops s = record {
  at = λ h bytes i j within.
      let both : is_some (attempt h a (only j) i) ≡ is_some
      (first_that_goes_on (λ l. trace_end (only j l)) (preferred_ends (pattern_looks h) h x i)) =
      sym (some_end (attempt h a (only j) i)) ∙ ap is_some (s.at h bytes loops (only j) i within) in (
        λ m. preferred_ends_sound (pattern_looks h) h x i j (first_has j _ (sym both ∙ attempted h a i j m)),
        λ m. matched h a i j (both ∙ has_first j _ (preferred_ends_complete (pattern_looks h) h x i j m)),
      );
}

-- ---- joined
matches_within : (h : List ℕ) (a : Re) (i j : ℕ) → i ≤ length h → Matches h a i j → j ≤ length h
matches_within h a i j within m = let span = Matches-IsSpan h a i j m in omega arith

pub spans_cat : (a b : Re) (x y : Tree) → SameSpans a x → SameSpans b y → SameSpans (re.cat a b) (tree.cat x y)
spans_cat a b x y p q = record {
  at = λ h bytes i j within. (
    λ m. (m.0, (p.at h bytes i m.0 within).0 m.1, (q.at h bytes m.0 j (matches_within h a i m.0 within m.1)).0 m.2),
    λ m. (m.0, (p.at h bytes i m.0 within).1 m.1, (q.at h bytes m.0 j (span_within (pattern_looks h) h x i m.0 within m.1)).1 m.2),
  );
}

pub spans_alt : (a b : Re) (x y : Tree) → SameSpans a x → SameSpans b y → SameSpans (re.alt a b) (tree.alt x y)
spans_alt a b x y p q = record {
  at = λ h bytes i j within.
      let first = p.at h bytes i j within in
      let second = q.at h bytes i j within in
      (⊎_elim (λ m. inl (first.0 m)) (λ m. inr (second.0 m)), ⊎_elim (λ m. inl (first.1 m)) (λ m. inr (second.1 m)));
}

pub spans_group : (n index : ℕ) (name : Option (List ℕ)) (a : Re) (x : Tree) → SameSpans a x →
    SameSpans (re.group n a) (tree.capture index name x)
spans_group n index name a x p = record { at = λ h bytes i j within. p.at h bytes i j within }
