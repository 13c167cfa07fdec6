-- A bound around the alternation of patterns is as one around each of them: every search takes the same way.
use Rattle.std.proofs.Common.{◌≡◌, ℕ, zero, suc, ◌+◌, ◌<◌, Bool, true, false, cond, List, [], ◌∷◌, All, length, map, Option, Some, None}
use Rattle.std.proofs.Common.{option_map, slice_get, refl, sym, ap, ap₂, ◌∙◌}
use Rattle.std.proofs.Math.Path.{fun_ext}
use Rattle.std.specs.Option.{option_or}
use Rattle.regex_class.specs.Ranges.{in_ranges}
use Rattle.regex_hir.specs.Find.{Match, find, find_all, first_from, matches_from}
use Rattle.regex_hir.specs.Looks.{holds}
use Rattle.regex_hir.specs.Meaning.{alt_all}
use Rattle.regex_hir.specs.Re.{Re, Rest, Trace, accept, alt, attempt, byte_in, cat, empty, look}
use Rattle.regex_hir.specs.Text.{is_some_and}
use Rattle.regex_hir.specs.declared.look.Look.TheVariants.{WordStartUnicode, WordStartHalfUnicode}
use Rattle.regex_hir.proofs.AttemptLemmas.{attempt_cong}
use Rattle.regex_syntax.specs.Same.{SameMatches}
use Rattle.regex_syntax.proofs.SameLemmas.{HasOneWay-look, alt-fail, alt_cong, cat-fail, cat_cong, same_refl, ◌then◌}
use Rattle.line_search.specs.Bounded.{bounded, end_look, line_pattern, start_look, word_end, word_start}
use Rattle.line_search.specs.declared.patterns.PatternOptions.{PatternOptions}

-- ---- what stands before a pattern is passed in one way at most
abbrev HasOneWay : Re → Type 0
HasOneWay a = (hay : List ℕ) (k l : Rest) (i : ℕ) →
    attempt hay a (λ j. option_or (k j) (l j)) i ≡ option_or (attempt hay a k i) (attempt hay a l i)

no_byte : (o : Option ℕ) (x : Option Trace) → cond (is_some_and o (in_ranges [])) x None ≡ None
unfolding in_ranges
no_byte None x = refl
no_byte (Some b) x = refl

-- two tests at one offset
either : (p q : Bool) (x y : Option Trace) → option_or (cond p (option_or x y) None) (option_or (cond q (option_or x y) None) None)
    ≡ option_or (option_or (cond p x None) (option_or (cond q x None) None)) (option_or (cond p y None) (option_or (cond q y None) None))
either true q (Some t) y = refl
either true true None None = refl
either true true None (Some t) = refl
either true false None None = refl
either true false None (Some t) = refl
either false true (Some t) y = refl
either false true None None = refl
either false true None (Some t) = refl
either false false x y = refl

either_or_byte : (p q : Bool) (o : Option ℕ) (x y z w : Option Trace) →
    option_or (cond p (option_or x y) None) (option_or (cond q (option_or x y) None)
    (cond (is_some_and o (in_ranges [])) (option_or z w) None))
    ≡ option_or (option_or (cond p x None) (option_or (cond q x None) (cond (is_some_and o (in_ranges [])) z None)))
    (option_or (cond p y None) (option_or (cond q y None) (cond (is_some_and o (in_ranges [])) w None)))
either_or_byte p q o x y z w = rw (no_byte o (option_or z w), no_byte o z, no_byte o w) (either p q x y)

starts_one_way : HasOneWay word_start
unfolding attempt
starts_one_way hay k l i =
    either_or_byte (holds WordStartUnicode hay i) (holds WordStartHalfUnicode hay i) (slice_get hay i) (k i) (l i) (k (i + 1)) (l (i + 1))

-- ---- a choice between two bounds
choice_between : (p a b q : Re) → HasOneWay p → SameMatches (cat p (cat (alt a b) q)) (alt (cat p (cat a q)) (cat p (cat b q)))
unfolding attempt
choice_between p a b q one = record {
  at = λ hay ok k i.
      attempt_cong hay p _ _ i (λ j _. refl) ∙ one hay (attempt hay (cat a q) k) (attempt hay (cat b q) k) i;
}

fail_before : (q : Re) → SameMatches (cat (byte_in []) q) (byte_in [])
unfolding attempt
fail_before q = record {
  at = λ hay ok k i.
      no_byte (slice_get hay i) (attempt hay q k (i + 1)) ∙ sym (no_byte (slice_get hay i) (k (i + 1)));
}

fail_between : (p q : Re) → SameMatches (cat p (cat (byte_in []) q)) (byte_in [])
fail_between p q = cat_cong (same_refl p) (fail_before q) then cat-fail p

all_between : (p q : Re) → HasOneWay p → (res : List Re) →
    SameMatches (cat p (cat (alt_all res) q)) (alt_all (map (λ a. cat p (cat a q)) res))
all_between p q one [] = fail_between p q
all_between p q one (a ∷ res) = choice_between p a (alt_all res) q one then alt_cong (same_refl _) (all_between p q one res)

all_unbounded : (res : List Re) → SameMatches (alt_all res) (alt_all (map (λ (a : Re). a) res))
all_unbounded [] = same_refl _
all_unbounded (a ∷ res) = alt_cong (same_refl a) (all_unbounded res)

-- ---- one bound around all patterns, and one around each
abbrev pub whole_pattern : PatternOptions → List Re → Re
whole_pattern how res = bounded how (alt_all res)

bounded_once : (how : PatternOptions) (res : List Re) → SameMatches (whole_pattern how res) (line_pattern how res)
bounded_once how res = by how.lines how.words
  where
    by : (lines words : Bool) → SameMatches (whole_pattern (record how { lines = lines; words = words }) res)
        (line_pattern (record how { lines = lines; words = words }) res)
    by true words = all_between (look (start_look how)) (cat (look (end_look how)) empty)
        (λ hay k l i. (HasOneWay-look (start_look how)).at hay k l i) res
    by false true = all_between word_start (cat word_end empty) starts_one_way res
    by false false = all_unbounded res

pub whole_is_each : (how : PatternOptions) (res : List Re) → SameMatches (alt_all (whole_pattern how res ∷ [])) (line_pattern how res)
whole_is_each how res = alt-fail (whole_pattern how res) then bounded_once how res

-- ---- so every search finds the same
first_same : (f g : Rest) → ((i : ℕ) → f i ≡ g i) → (n i : ℕ) → first_from f n i ≡ first_from g n i
unfolding first_from
first_same f g same zero i = refl
first_same f g same (suc n) i =
    ap₂ (λ (t : Option Trace) (later : Option Match). option_or (option_map (λ u. record { start = i; trace = u }) t) later) (same i)
    (first_same f g same n (i + 1))

pub find_same : (a b : Re) → SameMatches a b → (h : List ℕ) → All (λ x. x < 256) h → (s : ℕ) → find a h s ≡ find b h s
unfolding find
find_same a b same h bytes s = first_same (attempt h a accept) (attempt h b accept) (same.at h bytes accept) _ s

pub find_all_same : (a b : Re) → SameMatches a b → (h : List ℕ) → All (λ x. x < 256) h → find_all a h ≡ find_all b h
find_all_same a b same h bytes =
    let finds : find a h ≡ find b h = fun_ext (find_same a b same h bytes) in
    ap (λ (f : ℕ → Option Match). matches_from f (length h + 1) (f 0)) finds
