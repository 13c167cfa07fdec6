-- What the toolchain's programs find is what the parsed patterns have.
use Rattle.std.proofs.Common.{◌≡◌, ℕ, zero, suc, ◌+◌, ◌<◌, Bool, true, false, ◌&&◌, List, [], ◌∷◌, ◌++◌, length, map, drop}
use Rattle.std.proofs.Common.{slice_index_or, slice_get, Option, Some, None, Ok, option_map, refl, sym, ap, ap₂, ◌∙◌, subst, arith, append_assoc}
use Rattle.std.specs.Prelude.{is_some}
use Rattle.std.proofs.lemmas.Option.{none-some, same_Some}
use Rattle.regex.specs.Search.{leftmost_in}
use Rattle.regex.proofs.SearchLemmas.{leftmost_attempt}
use Rattle.regex_hir.specs.Find.{Match}
use Rattle.regex_hir.specs.Meaning.{alt_all, meaning}
use Rattle.regex_hir.specs.Re.{Re, accept, attempt}
use Rattle.regex_hir.specs.declared.hir.Hir.{Hir}
use Rattle.regex_meta.proofs.ProgramLemmas.{value_of_option_map}
use Rattle.regex_syntax.specs.declared.Config.{Config}
use Rattle.regex_vm.specs.Found.{span}
use Rattle.pattern_fallback.specs.Fallbacks.{AreAlike, AreParsedOf, found_in, first_at}
use Rattle.pattern_fallback.proofs.ForCallers.{IsFirstMatch, found_of_first}
use Rattle.pattern_search.specs.Searches.{found_from, which_match}
use Rattle.pattern_search.specs.Texts.{AreReadAs}
use Rattle.meta_regex.specs.declared.found_match.FoundMatch.{FoundMatch}
use Rattle.meta_regex.specs.Fallbacks.{IsFoundFor, finds_any}
use Rattle.meta_regex.specs.Regexes.{AreWhich, FindsFrom, HasFoundSpan, span_of_row}
use Rattle.meta_regex.specs.Wordless.{MayMatch, both_true}
use Rattle.meta_regex.proofs.FoundLemmas.{read_as_many}

-- ---- parsed patterns
-- their trees have the same captures
pub parsed_alike : (config : Config) (ts : List (List ℕ)) (xs : List Hir) (res : List Re) → AreParsedOf config ts xs →
    AreReadAs config ts res → AreAlike (map meaning xs) res
parsed_alike config [] [] [] p q = tt
parsed_alike config [] [] (a ∷ res) p q = absurd q
parsed_alike config [] (x ∷ xs) res p q = absurd p
parsed_alike config (t ∷ ts) [] res p q = absurd p
parsed_alike config (t ∷ ts) (x ∷ xs) [] p q = absurd q
parsed_alike config (t ∷ ts) (x ∷ xs) (a ∷ res) p q = (p.0 a q.0, parsed_alike config ts xs res p.1 q.1)

-- ---- one match
pub none_found : (utf8 : Bool) (res : List Re) (h : List ℕ) (at : ℕ) → None ≡ found_in utf8 (alt_all res) h at → IsFoundFor utf8 res h at None
none_found utf8 res h at is = record { span_is = sym is; pattern = tt }

pub one_found : (utf8 : Bool) (res : List Re) (h : List ℕ) (at : ℕ) (f : FoundMatch) →
    Some (span_of_row f) ≡ found_in utf8 (alt_all res) h at →
    (is_some (attempt h (alt_all res) accept f.start) ≡ true → f.pattern ≡ first_at res h f.start) → IsFoundFor utf8 res h at (Some f)
one_found utf8 res h at f is number =
    let v = value_of_option_map span (leftmost_in utf8 (alt_all res) h at) (span_of_row f) (sym is) in
    let starts : v.0.start ≡ f.start = ap (λ (s : ℕ × ℕ). s.0) v.2 in
    let ends : v.0.trace.end ≡ f.end = ap (λ (s : ℕ × ℕ). s.1) v.2 in
    let there = (leftmost_attempt (alt_all res) h utf8 at v.0 v.1).2 in
    let told : f.pattern ≡ first_at res h v.0.start =
    number (ap (λ i. is_some (attempt h (alt_all res) accept i)) (sym starts) ∙ ap is_some there) ∙ ap (first_at res h) (sym starts) in
    let first : IsFirstMatch res h f.pattern f.start f.end =
    subst (λ n. IsFirstMatch res h n f.start f.end) (sym told)
    (subst (λ i. IsFirstMatch res h (first_at res h v.0.start) i f.end) starts
    (subst (λ j. IsFirstMatch res h (first_at res h v.0.start) v.0.start j) ends (found_of_first utf8 res h at v.0 v.1))) in
    record {
      span_is = sym is;
      pattern = record {
        matches = record { pattern = first.pattern; listed = first.listed; matches = first.matches };
        none_before = λ p j below m. first.none_before p m.pattern j below m.listed m.matches;
      };
    }

same_search : (utf8 : Bool) (a : Re) (h : List ℕ) (at : ℕ) → found_from utf8 a h at ≡ leftmost_in utf8 a h at
same_search true a h at = refl
same_search false a h at = refl

starts_by : (a : Option Match) (b : Option FoundMatch) → option_map span a ≡ option_map span_of_row b →
    option_map (λ m. m.start) a ≡ option_map (λ r. FoundMatch.start r) b
starts_by None None e = refl
starts_by None (Some b) e = absurd (none-some (span_of_row b) e)
starts_by (Some a) None e = absurd (none-some (span a) (sym e))
starts_by (Some a) (Some b) e = ap (λ (s : ℕ × ℕ). Some s.0) (same_Some (span a) (span_of_row b) e)

module _ (config : Config) (ts : List (List ℕ)) (h : List ℕ) (at : ℕ) (o : Option FoundMatch)
    (each : (res : List Re) → AreReadAs config ts res → IsFoundFor config.utf8 res h at o) where
  preferred_slowly : HasFoundSpan config ts h at o
  preferred_slowly res read = ap (option_map span) (same_search config.utf8 (alt_all res) h at) ∙ (each res read).span_is

  pub finds_slowly : (loops : Bool) → FindsFrom config ts loops h at (Ok o)
  finds_slowly loops = record {
    found = record {
      start = λ res read. starts_by (found_from config.utf8 (alt_all res) h at) o (preferred_slowly res read);
      pattern = λ res read. (each res read).pattern;
    };
    preferred = λ on. preferred_slowly;
    refused = tt;
  }

-- ---- which patterns match
all_searched : (utf8 : Bool) (h : List ℕ) (res : List Re) → map (finds_any utf8 h) res ≡ which_match utf8 res h
all_searched utf8 h [] = refl
all_searched utf8 h (a ∷ res) =
    ap₂ (λ (b : Bool) (bs : List Bool). b ∷ bs) (ap is_some (sym (same_search utf8 a h 0))) (all_searched utf8 h res)

-- those that match of the ones that may are all that match
pub which_of_may : (h : List ℕ) (config : Config) (ts : List (List ℕ)) (may tests : List Bool) → MayMatch config ts h may →
    length may ≡ length ts → ((res : List Re) → AreReadAs config ts res → length may ≡ length res →
    tests ≡ both_true may (map (finds_any config.utf8 h) res)) → AreWhich config ts h tests
which_of_may h config ts may tests allowed long each res read =
    each res read (long ∙ sym (read_as_many config ts res read)) ∙ ap (both_true may) (all_searched config.utf8 h res) ∙ allowed res read

-- ---- tests one after the other
-- what is tested so far, followed by the tests that are left, are all of them
abbrev pub IsTestedSoFar : Bool → List ℕ → List Re → List Bool → ℕ → List Bool → Type 0
IsTestedSoFar utf8 h res may n tests =
    tests ++ both_true (drop n may) (map (finds_any utf8 h) (drop n res)) ≡ both_true may (map (finds_any utf8 h) res)

one_test : (f : Re → Bool) (may : List Bool) (res : List Re) (n : ℕ) (d has : Bool) → n < length may → length may ≡ length res →
    ((a : Re) → slice_get res n ≡ Some a → has ≡ (slice_index_or may n d && f a)) →
    both_true (drop n may) (map f (drop n res)) ≡ has ∷ both_true (drop (suc n) may) (map f (drop (suc n) res))
one_test f [] res n d has below long told = absurd (omega (arith, below))
one_test f (b ∷ may) [] n d has below long told = absurd (omega (arith, long))
one_test f (b ∷ may) (a ∷ res) zero d has below long told =
    ap (λ (t : Bool). t ∷ both_true may (map f res)) (sym (told a refl))
one_test f (b ∷ may) (a ∷ res) (suc n) d has below long told = one_test f may res n d has (omega (arith, below)) (omega (arith, long)) told

pub one_more_test : (utf8 : Bool) (h : List ℕ) (res : List Re) (may : List Bool) (n : ℕ) (d has : Bool) (old new : List Bool) →
    n < length may → length may ≡ length res → new ≡ old ++ has ∷ [] →
    ((a : Re) → slice_get res n ≡ Some a → has ≡ (slice_index_or may n d && finds_any utf8 h a)) →
    IsTestedSoFar utf8 h res may n old → IsTestedSoFar utf8 h res may (n + 1) new
one_more_test utf8 h res may n d has old new below long pushed told so_far =
    let step : suc n ≡ n + 1 = omega arith in
    let rest = both_true (drop (suc n) may) (map (finds_any utf8 h) (drop (suc n) res)) in
    subst (λ k. IsTestedSoFar utf8 h res may k new) step
    (ap (λ (l : List Bool). l ++ rest) pushed
    ∙ append_assoc old (has ∷ []) rest
    ∙ ap (λ (l : List Bool). old ++ l) (sym (one_test (finds_any utf8 h) may res n d has below long told))
    ∙ so_far)
