-- Searches find the spans that the toolchain's matcher finds, if the body of every unbounded repetition consumes at least one byte.
use Rattle.std.proofs.Common.{◌≡◌, ℕ, zero, suc, ◌+◌, ◌-◌, ◌≤◌, ◌<◌, Bool, true, false, nat_le, List, [], ◌∷◌, ◌++◌, map, length, All}
use Rattle.std.proofs.Common.{Option, Some, None, option_map, slice_get, if◌then◌else◌, refl, sym, ap, ap₂, ◌∙◌, arith, inl, inr, le-leb}
use Rattle.std.proofs.Common.{lt-ltb}
use Rattle.std.specs.Option.{option_or}
use Rattle.std.specs.List.{filter}
use Rattle.std.proofs.lemmas.Bool.{cond-true, cases_lt}
use Rattle.std.proofs.lemmas.List.Elements.{All-head, All-tail}
use Rattle.regex_class.specs.Ranges.{in_ranges}
use Rattle.regex_hir.specs.Re.{Re, Trace, Rest, accept, attempt}
use Rattle.regex_hir.specs.Meaning.{alt_all}
use Rattle.regex_hir.specs.Find.{first_from, first_between, find, find_str}
use Rattle.regex_hir.specs.Text.{is_some_and}
use Rattle.search_types.specs.declared.anchored.Anchored.TheVariants.{No}
use Rattle.search_types.specs.Found.{Found}
use Rattle.search_types.specs.Modes.{allowed}
use Rattle.search_types.specs.Places.{counts}
use Rattle.search_types.specs.LeftmostAnswer.{first_choice, leftmost}
use Rattle.hir_core.specs.Tree.{Tree}
use Rattle.hir_core.specs.Facts.{LoopsRead, is_utf8_tree}
use Rattle.hir_core.specs.PreferredEnds.{preferred_ends, Has}
use Rattle.hir_core.proofs.ForCallers.{preferred_ends_sound}
use Rattle.hir_regex.specs.Choices.{pattern_choices, choices, may_end, choices_at, answer_from}
use Rattle.hir_regex.specs.Regexes.{IsSearchOf}
use Rattle.pattern_text.specs.SameEnds.{pattern_looks, trace_end, first_that_goes_on, AreSameEnds}
use Rattle.pattern_search.specs.Searches.{whole_search, whole_query, found_from, span_of_match, span_of_found, FindsAsRead}
use Rattle.pattern_search.proofs.BoundaryLemmas.{may_begin, same_begin, span_may_end}
use Rattle.pattern_search.proofs.MatchSpanLemmas.{spans_or}

-- ---- the ends of several trees from one offset
-- the first end of several lists, one after the other
abbrev first_all : List (List ℕ) → Option ℕ
first_all [] = None
first_all (ends ∷ rest) = option_or (first_that_goes_on Some ends) (first_all rest)

abbrev ends_of : List Tree → List ℕ → ℕ → List (List ℕ)
ends_of xs h i = map (λ x. preferred_ends (pattern_looks h) h x i) xs

none_of : (o : Option ℕ) (i : ℕ) → trace_end (if is_some_and o (in_ranges []) then accept (i + 1) else None) ≡ None
unfolding in_ranges
none_of None i = refl
none_of (Some b) i = refl

-- the alternation of the patterns goes on from the first end
alternation_end : (h : List ℕ) → All (λ b. b < 256) h → (i : ℕ) → i ≤ length h → (res : List Re) (xs : List Tree) → AreSameEnds res xs →
    All LoopsRead xs → trace_end (attempt h (alt_all res) accept i) ≡ first_all (ends_of xs h i)
unfolding attempt
alternation_end h bytes i within [] [] s loops = none_of (slice_get h i) i
alternation_end h bytes i within [] (x ∷ xs) s loops = absurd s
alternation_end h bytes i within (a ∷ res) [] s loops = absurd s
alternation_end h bytes i within (a ∷ res) (x ∷ xs) s loops =
    end_of-or (attempt h a accept i) (attempt h (alt_all res) accept i)
    ∙ ap₂ option_or (s.0.at h bytes (All-head LoopsRead x xs loops) accept i within)
    (alternation_end h bytes i within res xs s.1 (All-tail LoopsRead x xs loops))
  where
    end_of-or : (a b : Option Trace) → trace_end (option_or a b) ≡ option_or (trace_end a) (trace_end b)
    end_of-or None b = refl
    end_of-or (Some t) b = refl

-- every end is kept
abbrev IsKept : (ℕ → Bool) → List ℕ → Type 0
IsKept kept ends = (j : ℕ) → Has ends j → kept j ≡ true

abbrev AreKept : (ℕ → Bool) → List (List ℕ) → Type 0
AreKept kept [] = Unit {0}
AreKept kept (ends ∷ rest) = IsKept kept ends × AreKept kept rest

-- ---- the first choice at an offset
abbrev span_of : Option Found → Option (ℕ × ℕ)
span_of = option_map span_of_found

abbrev at_place : ℕ → Option ℕ → Option (ℕ × ℕ)
at_place i = option_map (λ e. (i, e))

one_pattern : (kept : ℕ → Bool) (i p : ℕ) (ends : List ℕ) → IsKept kept ends → (rest : List (ℕ × ℕ)) →
    span_of (first_choice i (pattern_choices true kept p ends ++ rest)) ≡
    option_or (at_place i (first_that_goes_on Some ends)) (span_of (first_choice i rest))
one_pattern kept i p [] all rest = refl
one_pattern kept i p (e ∷ ends) all rest =
    ap (λ js. span_of (first_choice i (map (λ j. (p, j)) js ++ rest)))
    (cond-true (kept e) (e ∷ filter kept ends) (filter kept ends) (all e (inl refl)))

at_place-or : (i : ℕ) (a b : Option ℕ) → at_place i (option_or a b) ≡ option_or (at_place i a) (at_place i b)
at_place-or i None b = refl
at_place-or i (Some x) b = refl

all_patterns : (count : ℕ) (kept : ℕ → Bool) (i p : ℕ) (ends : List (List ℕ)) → AreKept kept ends → p + length ends ≤ count →
    span_of (first_choice i (choices (allowed No count) kept p ends)) ≡ at_place i (first_all ends)
all_patterns count kept i p [] all fits = refl
all_patterns count kept i p (e ∷ ends) all fits =
    ap (λ b. span_of (first_choice i (pattern_choices b kept p e ++ choices (allowed No count) kept (p + 1) ends)))
    (lt-ltb p count (omega arith))
    ∙ one_pattern kept i p e all.0 (choices (allowed No count) kept (p + 1) ends)
    ∙ ap (option_or (at_place i (first_that_goes_on Some e))) (all_patterns count kept i (p + 1) ends all.1 (omega arith))
    ∙ sym (at_place-or i (first_that_goes_on Some e) (first_all ends))

length-ends : (h : List ℕ) (i : ℕ) (xs : List Tree) → length (ends_of xs h i) ≡ length xs
length-ends h i [] = refl
length-ends h i (x ∷ xs) = ap suc (length-ends h i xs)

-- ---- searches
-- what the matcher tries at an offset
abbrev pub tried : Bool → List ℕ → Re → Rest
tried utf8 h re i = if may_begin utf8 h i then attempt h re accept i else None

pub found_is : (utf8 : Bool) (re : Re) (h : List ℕ) (s : ℕ) → found_from utf8 re h s ≡ first_between (tried utf8 h re) s (length h)
unfolding find find_str
found_is false re h s = refl
found_is true re h s = refl

module _ (utf8 : Bool) (res : List Re) (xs : List Tree) (same : AreSameEnds res xs) (loops : All LoopsRead xs) (h : List ℕ) (s : ℕ)
    (search : IsSearchOf xs utf8 (whole_search h s)) where
  abbrev kept : ℕ → Bool
  kept = may_end (whole_query utf8 xs h)

  all_kept : (i : ℕ) → i ≤ length h → counts utf8 h i ≡ true → (ys : List Tree) → (utf8 ≡ true → All (λ y. is_utf8_tree y ≡ true) ys) →
      AreKept kept (ends_of ys h i)
  all_kept i within starts [] text = tt
  all_kept i within starts (y ∷ ys) text = (
    λ j has. span_may_end utf8 xs h s search y i j (λ on. All-head (λ x. is_utf8_tree x ≡ true) y ys (text on)) within starts
        (preferred_ends_sound (pattern_looks h) h y i j has),
    all_kept i within starts ys (λ on. All-tail (λ x. is_utf8_tree x ≡ true) y ys (text on)),
  )

  at_counted : (i : ℕ) → i ≤ length h → (b : Bool) → counts utf8 h i ≡ b →
      span_of (first_choice i (if b then choices (allowed No (length xs)) kept 0 (ends_of xs h i) else []))
      ≡ at_place i (trace_end (if b then attempt h (alt_all res) accept i else None))
  at_counted i within false is = refl
  at_counted i within true is =
      all_patterns (length xs) kept i 0 (ends_of xs h i) (all_kept i within is xs search.utf8_trees) (omega (arith, length-ends h i xs))
      ∙ ap (at_place i) (sym (alternation_end h search.bytes i within res xs same loops))

  at_one : (i : ℕ) → i ≤ length h →
      span_of (first_choice i (choices_at (whole_query utf8 xs h) i)) ≡ at_place i (trace_end (tried utf8 h (alt_all res) i))
  at_one i within =
      at_counted i within (counts utf8 h i) refl
      ∙ ap (λ b. at_place i (trace_end (if b then attempt h (alt_all res) accept i else None))) (sym (same_begin utf8 h i within))

  founds-or : (a b : Option Found) → span_of (option_or a b) ≡ option_or (span_of a) (span_of b)
  founds-or None b = refl
  founds-or (Some x) b = refl

  here : (i : ℕ) (t : Option Trace) → option_map span_of_match (option_map (λ t. record { start = i; trace = t }) t) ≡ at_place i
      (trace_end t)
  here i None = refl
  here i (Some t) = refl

  from : (n i : ℕ) → i + n ≤ length h + 1 →
      option_map span_of_match (first_from (tried utf8 h (alt_all res)) n i) ≡ span_of (leftmost (choices_at (whole_query utf8 xs h)) n i)
  unfolding first_from
  from zero i fits = refl
  from (suc n) i fits =
      spans_or (option_map (λ t. record { start = i; trace = t }) (tried utf8 h (alt_all res) i))
      (first_from (tried utf8 h (alt_all res)) n (i + 1))
      ∙ ap₂ option_or (here i (tried utf8 h (alt_all res) i) ∙ sym (at_one i (omega arith))) (from n (i + 1) (omega arith))
      ∙ sym (founds-or (first_choice i (choices_at (whole_query utf8 xs h) i)) (leftmost (choices_at (whole_query utf8 xs h)) n (i + 1)))

  -- after the end of the haystack nothing is tried
  none_behind : (n : ℕ) → n ≡ 0 → (b : Bool) →
      option_map span_of_match (first_from (tried utf8 h (alt_all res)) n s)
      ≡ span_of (if b then leftmost (choices_at (whole_query utf8 xs h)) n s else None)
  unfolding first_from
  none_behind zero is false = refl
  none_behind zero is true = refl
  none_behind (suc n) is b = absurd (omega (arith, is))

  by_place : (b : Bool) → nat_le s (length h) ≡ b →
      option_map span_of_match (first_from (tried utf8 h (alt_all res)) (length h + 1 - s) s)
      ≡ span_of (if b then leftmost (choices_at (whole_query utf8 xs h)) (length h + 1 - s) s else None)
  by_place b is = elim (cases_lt (length h) s) [
    | inl behind ↦ none_behind (length h + 1 - s) (omega arith) b
    | inr within ↦
        from (length h + 1 - s) s (omega arith)
        ∙ ap (λ c. span_of (if c then leftmost (choices_at (whole_query utf8 xs h)) (length h + 1 - s) s else None))
        (sym (le-leb s (length h) within) ∙ is)
  ]

  pub finds : option_map span_of_match (found_from utf8 (alt_all res) h s) ≡ span_of (answer_from (whole_query utf8 xs h) s)
  finds = ap (option_map span_of_match) (found_is utf8 (alt_all res) h s) ∙ by_place (nat_le s (length h)) refl

pub finds_as_read : (res : List Re) (xs : List Tree) → AreSameEnds res xs → All LoopsRead xs → (utf8 : Bool) → FindsAsRead utf8 res xs
finds_as_read res xs same loops utf8 h s search = finds utf8 res xs same loops h s search
