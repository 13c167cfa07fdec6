-- Where a match may start and end, in bytes and in UTF-8 mode.
use Rattle.std.proofs.Common.{◌≡◌, ℕ, ◌<◌, ◌≤◌, ◌&&◌, ◌||◌, not, Bool, true, false, nat_le, nat_lt, List, length, slice_index, Option, ◌==◌}
use Rattle.std.proofs.Common.{eq-eqb, refl, sym, ap, ◌∙◌, subst, inl, inr, arith, le-leb}
use Rattle.std.proofs.lemmas.Bool.{cases_lt, and_from}
use Rattle.std.proofs.lemmas.Bool.Decides.{nat_tests}
use Rattle.std.proofs.lemmas.Option.{slice_get-get_or, slice_get_past}
use Rattle.std.specs.Int.{is_in_range}
use Rattle.regex_hir.specs.Text.{is_none_or, is_boundary}
use Rattle.search_core.specs.Utf8 as utf8
use Rattle.search_core.specs.Utf8.{IsValidText}
use Rattle.search_types.specs.Places.{counts}
use Rattle.hir_core.specs.Tree.{Tree}
use Rattle.hir_core.specs.Means.{Means}
use Rattle.hir_core.specs.Facts.{is_utf8_tree}
use Rattle.hir_core.proofs.ForCallers.{span_forward, span_within, span_end_bounded}
use Rattle.hir_regex.specs.Choices.{may_end}
use Rattle.hir_regex.specs.Regexes.{IsSearchOf}
use Rattle.pattern_text.specs.SameEnds.{pattern_looks}
use Rattle.pattern_search.specs.Searches.{whole_search, whole_query}

abbrev passes : Option ℕ → Bool
passes o = is_none_or o (λ b. not (is_in_range 0x80 0xBF b))

inside : (i n b : ℕ) → i < n → not (is_in_range 0x80 0xBF b) ≡ (i == n) || (nat_lt i n && (nat_le b 0x7F || nat_le 0xC0 b))
inside i n b less = grind (arith, nat_tests)

-- the matcher's boundaries are those of UTF-8 mode
pub same_boundary : (h : List ℕ) (i : ℕ) → i ≤ length h → is_boundary h i ≡ utf8.is_boundary h i
unfolding is_boundary
same_boundary h i within = elim (cases_lt i (length h)) [
  | inl less ↦ ap passes (slice_get-get_or h i 0 less) ∙ inside i (length h) (slice_index h i) less
  | inr above ↦
      ap passes (slice_get_past h i above)
      ∙ ap (λ b. b || (nat_lt i (length h) && (nat_le (slice_index h i) 0x7F || nat_le 0xC0 (slice_index h i))))
      (sym (eq-eqb i (length h) (omega arith)))
]

-- whether a match may start at the offset
abbrev pub may_begin : Bool → List ℕ → ℕ → Bool
may_begin false h i = true
may_begin true h i = is_boundary h i

pub same_begin : (utf8 : Bool) (h : List ℕ) (i : ℕ) → i ≤ length h → may_begin utf8 h i ≡ counts utf8 h i
same_begin false h i within = refl
same_begin true h i within = same_boundary h i within

-- a span that a tree means from an offset that counts ends at one, up to the haystack's end
module _ (utf8 : Bool) (xs : List Tree) (h : List ℕ) (s : ℕ) (search : IsSearchOf xs utf8 (whole_search h s)) where
  end_counts : (x : Tree) (i j : ℕ) → (utf8 ≡ true → is_utf8_tree x ≡ true) → i ≤ length h → counts utf8 h i ≡ true →
      Means (pattern_looks h) h x i j →
      (b : Bool) → utf8 ≡ b → counts b h j ≡ true
  end_counts x i j text within starts m false is = refl
  end_counts x i j text within starts m true is = elim (cases_lt i j) [
    | inl less ↦ span_end_bounded (pattern_looks h) h x i j (search.valid is) (text is) m less
        (span_within (pattern_looks h) h x i j within m)
    | inr above ↦
        let forward = span_forward (pattern_looks h) h x i j m in
        let same : i ≡ j = omega arith in
        subst (λ k. counts true h k ≡ true) same (subst (λ c. counts c h i ≡ true) is starts)
  ]

  pub span_counts : (x : Tree) (i j : ℕ) → (utf8 ≡ true → is_utf8_tree x ≡ true) → i ≤ length h → counts utf8 h i ≡ true →
      Means (pattern_looks h) h x i j →
      counts utf8 h j ≡ true
  span_counts x i j text within starts m = end_counts x i j text within starts m utf8 refl

  pub span_may_end : (x : Tree) (i j : ℕ) → (utf8 ≡ true → is_utf8_tree x ≡ true) → i ≤ length h → counts utf8 h i ≡ true →
      Means (pattern_looks h) h x i j →
      may_end (whole_query utf8 xs h) j ≡ true
  span_may_end x i j text within starts m =
      and_from (nat_le j (length h)) (counts utf8 h j) (le-leb j (length h) (span_within (pattern_looks h) h x i j within m))
      (span_counts x i j text within starts m)
