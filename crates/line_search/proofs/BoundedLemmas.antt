-- The spans of a pattern that counts only as a whole line or as whole words.
use Rattle.std.proofs.Common.{◌≡◌, ◌⊎◌, ◌↔◌, ◌≤◌, ◌<◌, ◌==◌, ◌&&◌, ◌||◌, not, inl, inr, ℕ, zero, suc, ◌-◌, Bool, true, false, List, [], ◌∷◌}
use Rattle.std.proofs.Common.{length, slice_get, Option, Some, None, if◌then◌else◌, refl, sym, ap, ap₂, ◌∙◌, subst, arith, true≢false}
use Rattle.std.specs.Prelude.{is_some}
use Rattle.std.proofs.lemmas.Bool.{and_parts, cases_lt, eqb-false, eqb-true}
use Rattle.std.proofs.lemmas.Option.{none-some, same_Some, slice_get_past}
use Rattle.regex_class.specs.Ranges.{in_ranges}
use Rattle.regex_hir.specs.Find.{find, Match}
use Rattle.regex_hir.specs.Looks.{holds, holds_between, is_whole, is_word, side_after, side_before}
use Rattle.regex_hir.specs.Matches.{Matches}
use Rattle.regex_hir.specs.Re.{Re}
use Rattle.regex_hir.specs.Text.{byte_before}
use Rattle.regex_hir.specs.declared.look.Look.TheVariants.{Start, End}
use Rattle.regex_hir.proofs.FindLemmas.{find_complete, find_sound, IsFirst-of_first_between}
use Rattle.regex_hir.proofs.MatchesLemmas.{Matches-IsSpan}
use Rattle.line_search.specs.Bounded.{bounded, end_look, span_counts, may_end_line, may_end_word, may_start_line, may_start_word}
use Rattle.line_search.specs.Bounded.{line_pattern, start_look, word_end, word_start, HasKeptSpan}
use Rattle.line_search.specs.declared.patterns.PatternOptions.{PatternOptions}

both : (a b : Bool) → a ≡ true → b ≡ true → (a && b) ≡ true
both a b p q = ap₂ (λ x y. x && y) p q

-- ---- the ends of the line
slice_some : (line : List ℕ) (n : ℕ) → n < length line → is_some (slice_get line n) ≡ true
slice_some [] n below = absurd (omega (arith, below))
slice_some (b ∷ bs) zero below = refl
slice_some (b ∷ bs) (suc n) below = slice_some bs n (omega (arith, below))

start_by : (line : List ℕ) (i : ℕ) (b : Bool) → (i == 0) ≡ b → i ≤ length line →
    not (is_some (if b then None else slice_get line (i - 1))) ≡ b
start_by line i true is low = refl
start_by line i false is low = elim (cases_lt 0 i) [
  | inl above ↦ ap not (slice_some line (i - 1) (omega (arith, low, above)))
  | inr none ↦ let zeroth : i ≡ 0 = omega (arith, none) in absurd (eqb-false i 0 is zeroth)
]

start_holds : (line : List ℕ) (i : ℕ) → i ≤ length line → holds Start line i ≡ (i == 0)
unfolding holds holds_between byte_before
start_holds line i low = start_by line i (i == 0) refl low

end_by : (line : List ℕ) (j : ℕ) (b : Bool) → (j == length line) ≡ b → j ≤ length line → not (is_some (slice_get line j)) ≡ b
end_by line j true is low =
    let here : j ≡ length line = eqb-true j (length line) is in
    ap (λ (o : Option ℕ). not (is_some o)) (slice_get_past line j (omega (arith, here)))
end_by line j false is low = elim (cases_lt j (length line)) [
  | inl less ↦ ap not (slice_some line j less)
  | inr over ↦ let here : j ≡ length line = omega (arith, low, over) in absurd (eqb-false j (length line) is here)
]

end_holds : (line : List ℕ) (j : ℕ) → j ≤ length line → holds End line j ≡ (j == length line)
unfolding holds holds_between
end_holds line j low = end_by line j (j == length line) refl low

-- where lines start and end, in a text too
line_starts : (how : PatternOptions) (line : List ℕ) (i : ℕ) → i ≤ length line → holds (start_look how) line i ≡ may_start_line how line i
line_starts how line i low = by how.text
  where
    by : (text : Bool) → holds (start_look (record how { text = text })) line i ≡ may_start_line (record how { text = text }) line i
    by true = refl
    by false = start_holds line i low

line_ends : (how : PatternOptions) (line : List ℕ) (j : ℕ) → j ≤ length line → holds (end_look how) line j ≡ may_end_line how line j
line_ends how line j low = by how.text
  where
    by : (text : Bool) → holds (end_look (record how { text = text })) line j ≡ may_end_line (record how { text = text }) line j
    by true = refl
    by false = end_holds line j low

-- ---- the ends of words: the one look tests both sides, the other that the far side is a whole character
far_there : (far near whole : Bool) → ((not far && near) ≡ true) ⊎ ((whole && not far) ≡ true) → (not far && (near || whole)) ≡ true
far_there true near whole (inl e) = absurd (true≢false (sym e))
far_there true near true (inr e) = absurd (true≢false (sym e))
far_there true near false (inr e) = absurd (true≢false (sym e))
far_there false true whole p = refl
far_there false false whole (inl e) = absurd (true≢false (sym e))
far_there false false true (inr e) = refl
far_there false false false (inr e) = absurd (true≢false (sym e))

far_here : (far near whole : Bool) → (not far && (near || whole)) ≡ true → ((not far && near) ≡ true) ⊎ ((whole && not far) ≡ true)
far_here true near whole e = absurd (true≢false (sym e))
far_here false true whole e = inl refl
far_here false false true e = inr refl
far_here false false false e = absurd (true≢false (sym e))

end_there : (far near whole : Bool) → ((near && not far) ≡ true) ⊎ ((whole && not far) ≡ true) → (not far && (near || whole)) ≡ true
end_there far true whole (inl e) = far_there far true whole (inl (by far e))
  where
    by : (b : Bool) → (true && not b) ≡ true → (not b && true) ≡ true
    by true e = absurd (true≢false (sym e))
    by false e = refl
end_there far false whole (inl e) = absurd (true≢false (sym e))
end_there far near whole (inr e) = far_there far near whole (inr e)

end_here : (far near whole : Bool) → (not far && (near || whole)) ≡ true → ((near && not far) ≡ true) ⊎ ((whole && not far) ≡ true)
end_here true near whole e = absurd (true≢false (sym e))
end_here false true whole e = inl refl
end_here false false true e = inr refl
end_here false false false e = absurd (true≢false (sym e))

start_spans : (line : List ℕ) (i l : ℕ) → Matches line word_start i l → (l ≡ i) × (may_start_word line i ≡ true)
unfolding holds holds_between in_ranges
start_spans line i l (inl m) = (
  m.1,
  far_there (is_word (side_before line i)) (is_word (side_after line i)) (is_whole (side_before line i)) (inl m.0),
)
start_spans line i l (inr (inl m)) = (
  m.1,
  far_there (is_word (side_before line i)) (is_word (side_after line i)) (is_whole (side_before line i)) (inr m.0),
)
start_spans line i l (inr (inr m)) = absurd (true≢false (sym m.2))

spans_start : (line : List ℕ) (i : ℕ) → may_start_word line i ≡ true → Matches line word_start i i
unfolding holds holds_between
spans_start line i may = elim (far_here (is_word (side_before line i)) (is_word (side_after line i)) (is_whole (side_before line i)) may) [
  | inl e ↦ inl (e, refl)
  | inr e ↦ inr (inl (e, refl))
]

end_spans : (line : List ℕ) (i l : ℕ) → Matches line word_end i l → (l ≡ i) × (may_end_word line i ≡ true)
unfolding holds holds_between in_ranges
end_spans line i l (inl m) = (
  m.1,
  end_there (is_word (side_after line i)) (is_word (side_before line i)) (is_whole (side_after line i)) (inl m.0),
)
end_spans line i l (inr (inl m)) = (
  m.1,
  end_there (is_word (side_after line i)) (is_word (side_before line i)) (is_whole (side_after line i)) (inr m.0),
)
end_spans line i l (inr (inr m)) = absurd (true≢false (sym m.2))

spans_end : (line : List ℕ) (i : ℕ) → may_end_word line i ≡ true → Matches line word_end i i
unfolding holds holds_between
spans_end line i may = elim (end_here (is_word (side_after line i)) (is_word (side_before line i)) (is_whole (side_after line i)) may) [
  | inl e ↦ inl (e, refl)
  | inr e ↦ inr (inl (e, refl))
]

-- ---- a pattern between both
module _ (re : Re) (line : List ℕ) (i j : ℕ) (low : i ≤ length line) where
  abbrev Kept : PatternOptions → Type 0
  Kept how = (span_counts how line i j ≡ true) × Matches line re i j

  line_there : (how : PatternOptions) → Matches line (bounded (record how { lines = true }) re) i j → Kept (record how { lines = true })
  line_there how (l, first, (m, body, (n, last, e))) =
      let ends : m ≡ j = sym last.1 ∙ sym e in
      let spans : Matches line re i j = subst (λ k. Matches line re i k) ends (subst (λ k. Matches line re k m) first.1 body) in
      let far = Matches-IsSpan line re i j spans in (
        both (may_start_line how line i) (may_end_line how line j) (sym (line_starts how line i low) ∙ first.0)
            (sym (line_ends how line j (omega (arith, low, far.1))) ∙ subst (λ k. holds (end_look how) line k ≡ true) ends last.0),
        spans,
      )

  line_here : (how : PatternOptions) → Kept (record how { lines = true }) → Matches line (bounded (record how { lines = true }) re) i j
  line_here how (kept, spans) =
      let ends = and_parts (may_start_line how line i) (may_end_line how line j) kept in
      let far = Matches-IsSpan line re i j spans in (
        i,
        (line_starts how line i low ∙ ends.0, refl),
        (j, spans, (j, (line_ends how line j (omega (arith, low, far.1)) ∙ ends.1, refl), refl)),
      )

  words_there : (how : PatternOptions) → Matches line (bounded (record how { lines = false; words = true }) re) i j →
      Kept (record how { lines = false; words = true })
  words_there how (l, first, (m, body, (n, last, e))) =
      let starts = start_spans line i l first in
      let stops = end_spans line m n last in
      let ends : m ≡ j = sym stops.0 ∙ sym e in (
        both (may_start_word line i) (may_end_word line j) starts.1 (subst (λ k. may_end_word line k ≡ true) ends stops.1),
        subst (λ k. Matches line re i k) ends (subst (λ k. Matches line re k m) starts.0 body),
      )

  words_here : (how : PatternOptions) → Kept (record how { lines = false; words = true }) →
      Matches line (bounded (record how { lines = false; words = true }) re) i j
  words_here how (kept, spans) =
      let ends = and_parts (may_start_word line i) (may_end_word line j) kept in
      (i, spans_start line i ends.0, (j, spans, (j, spans_end line j ends.1, refl)))

  by : (how : PatternOptions) (lines words : Bool) → Matches line (bounded (record how { lines = lines; words = words }) re) i j
      ↔ Kept (record how { lines = lines; words = words })
  by how true words = (line_there (record how { words = words }), line_here (record how { words = words }))
  by how false true = (words_there how, words_here how)
  by how false false = (λ spans. (refl, spans), λ kept. kept.1)

pub kept_spans : (how : PatternOptions) (re : Re) (line : List ℕ) (i j : ℕ) → i ≤ length line →
    Matches line (bounded how re) i j ↔ ((span_counts how line i j ≡ true) × Matches line re i j)
kept_spans how re line i j low = by re line i j low how how.lines how.words

-- ---- several patterns
listed_there : (how : PatternOptions) (res : List Re) (line : List ℕ) (i j : ℕ) → Matches line (line_pattern how res) i j →
    (n : ℕ) × (re : Re) × (slice_get res n ≡ Some re) × Matches line (bounded how re) i j
unfolding in_ranges
listed_there how [] line i j m = absurd (true≢false (sym m.2))
listed_there how (a ∷ res) line i j (inl m) = (0, a, refl, m)
listed_there how (a ∷ res) line i j (inr m) =
    let rest = listed_there how res line i j m in
    (suc rest.0, rest.1, rest.2, rest.3)

listed_here : (how : PatternOptions) (res : List Re) (line : List ℕ) (i j n : ℕ) (re : Re) → slice_get res n ≡ Some re →
    Matches line (bounded how re) i j → Matches line (line_pattern how res) i j
listed_here how [] line i j n re listed m = absurd (none-some re listed)
listed_here how (a ∷ res) line i j zero re listed m = inl (subst (λ r. Matches line (bounded how r) i j) (sym (same_Some a re listed)) m)
listed_here how (a ∷ res) line i j (suc n) re listed m = inr (listed_here how res line i j n re listed m)

start_within : (re : Re) (line : List ℕ) (m : Match) → find re line 0 ≡ Some m → m.start ≤ length line
unfolding find
start_within re line m is = (IsFirst-of_first_between _ 0 (length line) m is).to

match_of : (how : PatternOptions) (res : List Re) (line : List ℕ) (o : Option Match) → find (line_pattern how res) line 0 ≡ o →
    is_some o ≡ true →
    HasKeptSpan how res line
match_of how res line None is some = absurd (true≢false (sym some))
match_of how res line (Some m) is some =
    let low = start_within (line_pattern how res) line m is in
    let found = (find_sound (line_pattern how res) line 0 m is).1 in
    let it = listed_there how res line m.start m.trace.end found in
    let spans = (kept_spans how it.1 line m.start m.trace.end low).0 it.3 in
    record {
      number = it.0;
      pattern = it.1;
      listed = it.2;
      start = m.start;
      end = m.trace.end;
      within = low;
      kept = spans.0;
      matches = spans.1;
    }

pub has_kept_span : (how : PatternOptions) (res : List Re) (line : List ℕ) →
    (is_some (find (line_pattern how res) line 0) ≡ true) ↔ HasKeptSpan how res line
has_kept_span how res line = (
  match_of how res line (find (line_pattern how res) line 0) refl,
  λ it. find_complete (line_pattern how res) line 0 it.start it.end (omega arith) it.within
      (listed_here how res line it.start it.end it.number it.pattern it.listed
      ((kept_spans how it.pattern line it.start it.end it.within).1 (it.kept, it.matches))),
)
