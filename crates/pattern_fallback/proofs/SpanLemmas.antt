-- The spans that a program finds, one after the other.
use Rattle.std.proofs.Common.{◌≡◌, ℕ, zero, suc, ◌+◌, ◌-◌, ◌<◌, ◌≤◌, ◌==◌, Bool, true, false, List, [], ◌∷◌, ◌++◌, All, length, map}
use Rattle.std.proofs.Common.{Option, Some, None, option_map, if◌then◌else◌, refl, sym, ap, ap₂, ◌∙◌, arith, append_assoc, subst}
use Rattle.std.proofs.Common.{append-nil, get_or}
use Rattle.std.proofs.lemmas.List.Elements.{All-head, All-tail}
use Rattle.std.proofs.lemmas.Option.{none-some}
use Rattle.std.specs.Prelude.{IfSome, is_some}
use Rattle.regex.specs.Search.{LiesWithin, leftmost_in}
use Rattle.regex.proofs.ForCallers.{is_match_alike, span_alike}
use Rattle.regex.proofs.SearchLemmas.{inside_char, leftmost_here, leftmost_none, leftmost_past, leftmost_retry, leftmost_within}
use Rattle.regex_hir.specs.Re.{Re}
use Rattle.regex_hir.specs.Find.{Match, find, find_after, matches_from}
use Rattle.regex_hir.specs.Text.{is_boundary, is_some_and}
use Rattle.regex_meta.proofs.ProgramLemmas.{none_of_option_map, value_of_option_map}
use Rattle.regex_syntax.specs.Captures.{SameCaptures}
use Rattle.regex_vm.specs.Found.{span}
use Rattle.search_types.specs.declared.span.Span.{Span}
use Rattle.pattern_fallback.specs.Fallbacks.{found_at, found_in, next_after, span_pair, spans_following}

-- ---- patterns with the same captures
bytes_at : (h : List ℕ) → All (λ b. b < 256) h → (k : ℕ) → get_or h k 0 < 256
bytes_at [] all k = omega arith
bytes_at (b ∷ h) all zero = All-head (λ x. x < 256) b h all
bytes_at (b ∷ h) all (suc k) = bytes_at h (All-tail (λ x. x < 256) b h all) k

pub same_found : (a b : Re) (h : List ℕ) (start : ℕ) → SameCaptures a b → All (λ x. x < 256) h → (utf8 : Bool) →
    found_in utf8 a h start ≡ found_in utf8 b h start
same_found a b h start same bytes utf8 = span_alike same h (bytes_at h bytes) utf8 start

pub same_has : (a b : Re) (h : List ℕ) → SameCaptures a b → All (λ x. x < 256) h → is_some (find a h 0) ≡ is_some (find b h 0)
same_has a b h same bytes = is_match_alike same h (bytes_at h bytes) false 0

some_alike : (o : Option Span) (m : Option Match) → option_map span_pair o ≡ option_map span m → is_some o ≡ is_some m
some_alike None None is = refl
some_alike None (Some m) is = absurd (none-some (span m) is)
some_alike (Some s) None is = absurd (none-some (span_pair s) (sym is))
some_alike (Some s) (Some m) is = refl

pub has_in_text : (p a : Re) (h : List ℕ) (o : Option Span) → SameCaptures p a → All (λ x. x < 256) h → option_map span_pair o ≡ found_in true p h 0 →
    is_some o ≡ is_some (leftmost_in true a h 0)
has_in_text p a h o same bytes is = some_alike o (leftmost_in true a h 0) (is ∙ same_found p a h 0 same bytes true)

-- what is found lies in the haystack
pub lies_within : (utf8 : Bool) (a : Re) (h : List ℕ) (at : ℕ) (o : Option Span) → option_map span_pair o ≡ found_in utf8 a h at →
    IfSome o (λ s. LiesWithin at (length h) (span_pair s))
lies_within utf8 a h at None is = tt
lies_within utf8 a h at (Some s) is =
    let v = value_of_option_map span (leftmost_in utf8 a h at) (span_pair s) (sym is) in
    subst (LiesWithin at (length h)) v.2 (leftmost_within a h utf8 at v.0 v.1)

-- ---- no match starts inside a character
-- the search comes to the same from another offset on
pub record IsOn (a : Re) (h : List ℕ) (utf8 : Bool) (start at : ℕ) : Type 0 where
  pub within : at ≤ length h
  pub same : leftmost_in utf8 a h start ≡ leftmost_in utf8 a h at

module _ (a : Re) (h : List ℕ) (utf8 : Bool) (start at : ℕ) (on : IsOn a h utf8 start at) where
  pub none_there : None ≡ found_at a h at → None ≡ found_in utf8 a h start
  none_there is = sym (ap (option_map span) (on.same ∙ leftmost_none a h utf8 at (none_of_option_map span (find a h at) (sym is))))

  pub found_there : (s : ℕ × ℕ) → Some s ≡ found_at a h at → (utf8 ≡ true → is_boundary h s.0 ≡ true) → Some s ≡ found_in utf8 a h start
  found_there s is cut =
      let v = value_of_option_map span (find a h at) s (sym is) in
      let starts : v.0.start ≡ s.0 = ap (λ (p : ℕ × ℕ). p.0) v.2 in
      sym (ap (option_map span) (on.same ∙ leftmost_here a h utf8 at v.0 v.1 (λ on. ap (is_boundary h) starts ∙ cut on)) ∙ ap Some v.2)

  -- the search goes on after the offset
  pub tried_again : (s : ℕ × ℕ) → Some s ≡ found_at a h at → utf8 ≡ true → false ≡ is_boundary h s.0 →
      (at ≤ s.0) × (s.0 < length h) × IsOn a h utf8 start (s.0 + 1)
  tried_again s is text inside =
      let v = value_of_option_map span (find a h at) s (sym is) in
      let starts : v.0.start ≡ s.0 = ap (λ (p : ℕ × ℕ). p.0) v.2 in
      let within = leftmost_within a h false at v.0 v.1 in
      let below = inside_char a h s.0 (sym inside) in (
        omega (arith, within.0, starts),
        below,
        record {
          within = omega (arith, below);
          same = on.same ∙ leftmost_retry a h utf8 at v.0 text v.1 (ap (is_boundary h) starts ∙ sym inside)
              ∙ ap (λ n. leftmost_in utf8 a h (n + 1)) starts;
        },
      )

-- ---- no match starts after the end
pub found_beyond : (a : Re) (h : List ℕ) (start : ℕ) → length h < start → found_at a h start ≡ None
found_beyond a h start above = ap (option_map span) (leftmost_past a h false start above)

pub next_beyond : (at : ℕ → Option (ℕ × ℕ)) (end : ℕ) → is_some_and (at end) (λ s. s.1 == end) ≡ true → at (end + 1) ≡ None →
    None ≡ next_after at end
next_beyond at end is none = sym (ap (λ b. if b then at (end + 1) else at end) is ∙ none)

pub none_beyond : (a : Re) (h : List ℕ) (end : ℕ) → length h < end → None ≡ next_after (found_at a h) end
none_beyond a h end above =
    sym (ap₂ (λ x y. if is_some_and x (λ s. s.1 == end) then y else x) (found_beyond a h end above)
    (found_beyond a h (end + 1) (omega (arith, above))))

-- ---- all matches
map_after : (s : ℕ → Option Match) (end : ℕ) → option_map span (find_after s end) ≡ next_after (λ i. option_map span (s i)) end
map_after s end = by (s end) (s (end + 1))
  where
    test_is : (o : Option Match) → is_some_and o (λ m. m.trace.end == end) ≡ is_some_and (option_map span o) (λ p. p.1 == end)
    test_is None = refl
    test_is (Some m) = refl

    if_map : (b : Bool) (x y : Option Match) → option_map span (if b then x else y) ≡ (if b then option_map span x else option_map span y)
    if_map true x y = refl
    if_map false x y = refl

    by : (o p : Option Match) → option_map span (if is_some_and o (λ m. m.trace.end == end) then p else o)
        ≡ (if is_some_and (option_map span o) (λ p. p.1 == end) then option_map span p else option_map span o)
    by o p = if_map (is_some_and o (λ m. m.trace.end == end)) p o
        ∙ ap (λ b. if b then option_map span p else option_map span o) (test_is o)

pub spans_of_matches : (s : ℕ → Option Match) (n : ℕ) (m : Option Match) →
    map span (matches_from s n m) ≡ spans_following (λ i. option_map span (s i)) n (option_map span m)
unfolding matches_from
spans_of_matches s zero m = refl
spans_of_matches s (suc n) None = refl
spans_of_matches s (suc n) (Some m) =
    ap (λ rest. span m ∷ rest)
    (spans_of_matches s n (find_after s m.trace.end) ∙ ap (spans_following (λ i. option_map span (s i)) n) (map_after s m.trace.end))

same_spans : (f g : ℕ → Option (ℕ × ℕ)) → ((i : ℕ) → f i ≡ g i) → (n : ℕ) (o : Option (ℕ × ℕ)) →
    spans_following f n o ≡ spans_following g n o
same_spans f g same zero o = refl
same_spans f g same (suc n) None = refl
same_spans f g same (suc n) (Some s) =
    ap (λ rest. s ∷ rest)
    (same_spans f g same n (next_after f s.1)
    ∙ ap₂ (λ x y. spans_following g n (if is_some_and x (λ p. p.1 == s.1) then y else x)) (same s.1) (same (s.1 + 1)))

one_span : (at : ℕ → Option (ℕ × ℕ)) (n m : ℕ) (s : ℕ × ℕ) → n ≡ suc m →
    spans_following at n (Some s) ≡ s ∷ spans_following at m (next_after at s.1)
one_span at n m s is = ap (λ k. spans_following at k (Some s)) is

no_span : (at : ℕ → Option (ℕ × ℕ)) (n : ℕ) → spans_following at n None ≡ []
no_span at zero = refl
no_span at (suc n) = refl

-- one more span
pub one_more_span : (at : ℕ → Option (ℕ × ℕ)) (all before after : List (ℕ × ℕ)) (most step : ℕ) (o next : Option (ℕ × ℕ)) (s : ℕ × ℕ) →
    step < most → o ≡ Some s →
    next ≡ next_after at s.1 → after ≡ before ++ s ∷ [] →
    all ≡ before ++ spans_following at (most - step) o →
    all ≡ after ++ spans_following at (most - (step + 1)) next
one_more_span at all before after most step o next s below some is pushed so_far =
    let one : most - step ≡ suc (most - (step + 1)) = omega (arith, below) in
    let rest = spans_following at (most - (step + 1)) (next_after at s.1) in
    so_far
    ∙ ap (λ p. before ++ spans_following at (most - step) p) some
    ∙ ap (λ l. before ++ l) (one_span at (most - step) (most - (step + 1)) s one)
    ∙ sym (append_assoc before (s ∷ []) rest)
    ∙ ap₂ (λ x y. x ++ spans_following at (most - (step + 1)) y) (sym pushed) (sym is)

pub all_found : (at : ℕ → Option (ℕ × ℕ)) (all reported : List (ℕ × ℕ)) (n : ℕ) (o : Option (ℕ × ℕ)) → o ≡ None →
    all ≡ reported ++ spans_following at n o → reported ≡ all
all_found at all reported n o none so_far =
    sym (so_far ∙ ap (λ p. reported ++ spans_following at n p) none ∙ ap (λ l. reported ++ l) (no_span at n) ∙ append-nil reported)

pub all_counted : (at : ℕ → Option (ℕ × ℕ)) (all reported : List (ℕ × ℕ)) (n : ℕ) (o : Option (ℕ × ℕ)) → n ≡ 0 →
    all ≡ reported ++ spans_following at n o → reported ≡ all
all_counted at all reported n o none so_far =
    sym (so_far ∙ ap (λ m. reported ++ spans_following at m o) none ∙ append-nil reported)

-- the spans of all matches of a pattern, one after the other
abbrev pub all_of : Re → List ℕ → List (ℕ × ℕ)
all_of a h = spans_following (found_at a h) (length h + 1) (found_at a h 0)

-- they are those of another one with the same captures
pub all_alike : (a b : Re) (h : List ℕ) (reported : List (ℕ × ℕ)) → SameCaptures a b → All (λ x. x < 256) h → reported ≡ all_of a h →
    reported ≡ map span (matches_from (find b h) (length h + 1) (find b h 0))
all_alike a b h reported same bytes is =
    let alike : (i : ℕ) → found_at a h i ≡ found_at b h i = λ i. same_found a b h i same bytes false in
    is
    ∙ same_spans (found_at a h) (found_at b h) alike (length h + 1) (found_at a h 0)
    ∙ ap (spans_following (found_at b h) (length h + 1)) (alike 0)
    ∙ sym (spans_of_matches (find b h) (length h + 1) (find b h 0))
