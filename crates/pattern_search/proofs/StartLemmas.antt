-- Whatever the bodies of repetitions consume, the spans of the trees are those of the patterns, and so are the starts of what is found.
use Rattle.std.proofs.Common.{◌≡◌, ℕ, zero, suc, ◌≤◌, Bool, true, false, List, [], ◌∷◌, length, All, Option, Some, None, option_map}
use Rattle.std.proofs.Common.{slice_get, if◌then◌else◌, refl, sym, ap, ◌∙◌, subst, arith, inl, inr, lt-ltb, true≢false}
use Rattle.std.proofs.lemmas.Bool.{cases_lt}
use Rattle.std.proofs.lemmas.Option.{none-some, same_Some, slice_get_within, get_or_from_slice_get}
use Rattle.regex_class.specs.Ranges.{in_ranges}
use Rattle.regex_hir.specs.Re.{Re, Trace, accept, attempt}
use Rattle.regex_hir.specs.Meaning.{alt_all}
use Rattle.regex_hir.specs.Matches.{Matches}
use Rattle.regex_hir.specs.Find.{Match, first_between}
use Rattle.regex_hir.proofs.AttemptLemmas.{attempt_sound, attempt_complete}
use Rattle.regex_hir.proofs.OptionLemmas.{value_of_IsSome}
use Rattle.regex_hir.proofs.FindLemmas.{IsFirst, IsFirst-of_first_between, none_of_first_between}
use Rattle.search_types.specs.declared.anchored.Anchored.TheVariants.{No}
use Rattle.search_types.specs.Found.{Found}
use Rattle.search_types.specs.Modes.{may_start}
use Rattle.search_types.specs.Places.{counts}
use Rattle.search_types.proofs.ForCallers.{starts_at, may_start_at}
use Rattle.hir_core.specs.Tree.{Tree}
use Rattle.hir_core.specs.Facts.{is_utf8_tree}
use Rattle.hir_core.proofs.ForCallers.{span_within}
use Rattle.hir_regex.specs.Choices.{answer_from}
use Rattle.hir_regex.specs.LooseAnswers.{IsCounted, IsLoose, IsLooseAnswer}
use Rattle.hir_regex.specs.Regexes.{IsSearchOf}
use Rattle.pattern_text.specs.SameEnds.{pattern_looks, SameSpans, AreSameSpans}
use Rattle.pattern_search.specs.Searches.{whole_search, whole_query, found_from, IsMatchOf, SpansAsRead, IsOfFirstPattern, StartsAsRead}
use Rattle.pattern_search.proofs.BoundaryLemmas.{may_begin, same_begin, span_counts}
use Rattle.pattern_search.proofs.ChoiceLemmas.{answer_is_loose}
use Rattle.pattern_search.proofs.FindLemmas.{tried, found_is}

-- ---- the tree and the pattern of one number
pub tree_at : (res : List Re) (xs : List Tree) → AreSameSpans res xs → (p : ℕ) (a : Re) → slice_get res p ≡ Some a →
    (x : Tree) × (slice_get xs p ≡ Some x) × SameSpans a x
tree_at [] xs same p a listed = absurd (omega (arith, slice_get_within [] p a listed))
tree_at (b ∷ res) [] same p a listed = absurd same
tree_at (b ∷ res) (x ∷ xs) same zero a listed = (x, refl, subst (λ r. SameSpans r x) (same_Some b a listed) same.0)
tree_at (b ∷ res) (x ∷ xs) same (suc p) a listed = tree_at res xs same.1 p a listed

pub pattern_at : (res : List Re) (xs : List Tree) → AreSameSpans res xs → (p : ℕ) (x : Tree) → slice_get xs p ≡ Some x →
    (a : Re) × (slice_get res p ≡ Some a) × SameSpans a x
pattern_at res [] same p x listed = absurd (omega (arith, slice_get_within [] p x listed))
pattern_at [] (y ∷ xs) same p x listed = absurd same
pattern_at (b ∷ res) (y ∷ xs) same zero x listed = (b, refl, subst (SameSpans b) (same_Some y x listed) same.0)
pattern_at (b ∷ res) (y ∷ xs) same (suc p) x listed = pattern_at res xs same.1 p x listed

pub spans_as_read : (res : List Re) (xs : List Tree) → AreSameSpans res xs → SpansAsRead res xs
spans_as_read res xs same h bytes utf8 p i j within = (
  λ m. let t = tree_at res xs same p m.pattern m.listed in
      record { tree = t.0; listed = t.1; means = (t.2.at h bytes i j within).0 m.matches },
  λ s. let a = pattern_at res xs same p s.tree s.listed in
      record { pattern = a.0; listed = a.1; matches = (a.2.at h bytes i j within).1 s.means },
)

-- ---- the alternation matches what one of the patterns does
module _ (h : List ℕ) (i j : ℕ) where
  one_of : (res : List Re) → Matches h (alt_all res) i j → (p : ℕ) × IsMatchOf res h p i j
  unfolding in_ranges
  one_of [] m = absurd (true≢false (sym m.2))
  one_of (a ∷ res) (inl m) = (0, record { pattern = a; listed = refl; matches = m })
  one_of (a ∷ res) (inr m) =
      let rest = one_of res m in
      (suc rest.0, record { pattern = rest.1.pattern; listed = rest.1.listed; matches = rest.1.matches })

  any_of : (res : List Re) (p : ℕ) (a : Re) → slice_get res p ≡ Some a → Matches h a i j → Matches h (alt_all res) i j
  any_of [] p a listed m = absurd (omega (arith, slice_get_within [] p a listed))
  any_of (b ∷ res) zero a listed m = inl (subst (λ r. Matches h r i j) (sym (same_Some b a listed)) m)
  any_of (b ∷ res) (suc p) a listed m = inr (any_of res p a listed m)

-- ---- if the matcher finds a match, a span counts, and vice versa
pub holds_of : (xs : List Tree) (p : ℕ) (x : Tree) → slice_get xs p ≡ Some x → All (λ y. is_utf8_tree y ≡ true) xs → is_utf8_tree x ≡ true
holds_of xs p x listed all =
    subst (λ y. is_utf8_tree y ≡ true) (get_or_from_slice_get xs p x x listed) (all p x (slice_get_within xs p x listed))

module _ (utf8 : Bool) (res : List Re) (xs : List Tree) (same : AreSameSpans res xs) (h : List ℕ) (s : ℕ)
    (search : IsSearchOf xs utf8 (whole_search h s)) where
  counted_span : (i p j : ℕ) → i ≤ length h → counts utf8 h i ≡ true → IsMatchOf res h p i j → IsCounted (whole_query utf8 xs h) i p j
  counted_span i p j within starts m =
      let span = (spans_as_read res xs same h search.bytes utf8 p i j within).0 m in
      record {
        findable = record {
          may = lt-ltb p (length xs) (slice_get_within xs p span.tree span.listed);
          span = span;
          within = span_within (pattern_looks h) h span.tree i j within span.means;
        };
        start_counts = starts;
        end_counts = span_counts utf8 xs h s search span.tree i j
            (λ on. holds_of xs p span.tree span.listed (search.utf8_trees on)) within starts span.means;
      }

  counted_by : (i : ℕ) (t : Trace) → i ≤ length h → (b : Bool) → may_begin utf8 h i ≡ b →
      (if b then attempt h (alt_all res) accept i else None) ≡ Some t → (p : ℕ) × (j : ℕ) × IsCounted (whole_query utf8 xs h) i p j
  counted_by i t within false is found = absurd (none-some t found)
  counted_by i t within true is found =
      let way = attempt_sound h (alt_all res) accept i t found in
      let one = one_of h i way.at res way.leads in
      (one.0, way.at, counted_span i one.0 way.at within (sym (same_begin utf8 h i within) ∙ is) one.1)

  counted_of : (i : ℕ) (t : Trace) → i ≤ length h → tried utf8 h (alt_all res) i ≡ Some t →
      (p : ℕ) × (j : ℕ) × IsCounted (whole_query utf8 xs h) i p j
  counted_of i t within found = counted_by i t within (may_begin utf8 h i) refl found

  tried_of : (i p j : ℕ) → i ≤ length h → IsCounted (whole_query utf8 xs h) i p j → tried utf8 h (alt_all res) i ≡ None → ⊥
  tried_of i p j within c none =
      let m = (spans_as_read res xs same h search.bytes utf8 p i j within).1 c.findable.span in
      let some = attempt_complete h (alt_all res) accept i j (any_of h i j res p m.pattern m.listed m.matches) refl in
      let begins : may_begin utf8 h i ≡ true = same_begin utf8 h i within ∙ c.start_counts in
      let here : tried utf8 h (alt_all res) i ≡ attempt h (alt_all res) accept i =
      ap (λ b. if b then attempt h (alt_all res) accept i else None) begins in
      let value = value_of_IsSome (attempt h (alt_all res) accept i) some in
      none-some value.0 (sym none ∙ here ∙ value.1)

  -- ---- starts
  may_be : (i : ℕ) → s ≤ i → i ≤ length h → may_start No s (length h) i ≡ true
  may_be i low high = may_start_at No s (length h) i (omega (arith, low, high)) low high

  first_start : (m : Match) (f : Found) → IsFirst (tried utf8 h (alt_all res)) s (length h) m →
      IsLoose (whole_query utf8 xs h) s f → m.start ≡ f.start
  first_start m f first loose =
      let at = starts_at No s (length h) f.start loose.starts in
      elim (cases_lt m.start f.start) [
        | inl less ↦
            let c = counted_of m.start m.trace first.to first.here in
            absurd (loose.none_before m.start c.0 c.1 (may_be m.start first.from first.to) less c.2)
        | inr above ↦ elim (cases_lt f.start m.start) [
          | inl less ↦ absurd (tried_of f.start f.pattern f.end at.to_last loose.counted (first.before f.start at.from_s less))
          | inr below ↦ omega (arith, above, below)
        ]
      ]

  by_both : (r : Option Match) (o : Option Found) → first_between (tried utf8 h (alt_all res)) s (length h) ≡ r →
      IsLooseAnswer (whole_query utf8 xs h) s o → option_map (λ m. m.start) r ≡ option_map (λ f. f.start) o
  by_both None None is loose = refl
  by_both None (Some f) is loose =
      let at = starts_at No s (length h) f.start loose.starts in
      absurd (tried_of f.start f.pattern f.end at.to_last loose.counted
      (none_of_first_between (tried utf8 h (alt_all res)) s (length h) is f.start at.from_s at.to_last))
  by_both (Some m) None is loose =
      let first = IsFirst-of_first_between (tried utf8 h (alt_all res)) s (length h) m is in
      let c = counted_of m.start m.trace first.to first.here in
      absurd (loose m.start c.0 c.1 (may_be m.start first.from first.to) c.2)
  by_both (Some m) (Some f) is loose =
      ap Some (first_start m f (IsFirst-of_first_between (tried utf8 h (alt_all res)) s (length h) m is) loose)

  same_starts : (o : Option Found) → IsLooseAnswer (whole_query utf8 xs h) s o →
      option_map (λ m. m.start) (found_from utf8 (alt_all res) h s) ≡ option_map (λ f. f.start) o
  same_starts o loose =
      ap (option_map (λ m. m.start)) (found_is utf8 (alt_all res) h s)
      ∙ by_both (first_between (tried utf8 h (alt_all res)) s (length h)) o refl loose

  of_first_pattern : (f : Found) → IsLoose (whole_query utf8 xs h) s f → IsOfFirstPattern res h f
  of_first_pattern f loose =
      let within = (starts_at No s (length h) f.start loose.starts).to_last in
      record {
        matches = (spans_as_read res xs same h search.bytes utf8 f.pattern f.start f.end within).1 loose.counted.findable.span;
        none_before = λ p j less m. loose.first_pattern p j less (counted_span f.start p j within loose.counted.start_counts m);
      }

pub starts_as_read : (res : List Re) (xs : List Tree) → AreSameSpans res xs → (utf8 : Bool) → StartsAsRead utf8 res xs
starts_as_read res xs same utf8 = record {
  loose = λ h s search o loose. same_starts utf8 res xs same h s search o loose;
  preferred = λ h s search. same_starts utf8 res xs same h s search (answer_from (whole_query utf8 xs h) s)
      (answer_is_loose (whole_query utf8 xs h) s);
  pattern = λ h s search f loose. of_first_pattern utf8 res xs same h s search f loose;
}
