-- The tree that is printed means what the tree means, and prefers the same ends.
use Rattle.std.proofs.Common.{◌≡◌, ℕ, zero, suc, ◌+◌, ◌<◌, ◌≤◌, Bool, true, cond, IsTrue, List, [], ◌∷◌, ◌++◌, map, slice_get}
use Rattle.std.proofs.Common.{Option, Some, None, All, IsSomeAnd, chars, refl, sym, ◌∙◌, ap, ap₂, subst, arith, add-zero}
use Rattle.std.specs.List.{flat_map}
use Rattle.std.proofs.lemmas.Bool.{and_parts, and_from}
use Rattle.std.proofs.lemmas.List.Elements.{All-head, All-tail, All-nil, All-cons}
use Rattle.search_core.specs.Characters.{character_at}
use Rattle.regex_hir.specs.Re.{Re}
use Rattle.regex_syntax.specs.declared.Config.{Config}
use Rattle.regex_syntax.specs.Brackets.{Nested}
use Rattle.regex_syntax.specs.Grammar.{Names, read}
use Rattle.hir_core.specs.Tree.{Tree, empty, literal, byte_class, char_class, look, repetition, capture, nothing, cat, never, alt}
use Rattle.hir_core.specs.Means.{Looks, Means, is_member}
use Rattle.hir_core.specs.PreferredEnds.{Ends, repeated, class_end, character_end, preferred_ends, Has}
use Rattle.hir_core.specs.Facts.{minimum_len, times, sum_of_both, least_of_either, is_utf8_tree, IsAboveZero, LoopsRead}
use Rattle.hir_core.proofs.ForCallers.{preferred_ends_sound, preferred_ends_complete}
use Rattle.hirscan.specs.Words.{class_ranges, scalar_ranges}
use Rattle.pattern_text.specs.SameEnds.{pattern_looks, trace_end, first_that_goes_on, SameEnds, SameSpans, HasNames}
use Rattle.pattern_text.specs.Patterns.{MeansText}
use Rattle.pattern_search.specs.Texts.{AllMean}
use Rattle.hirhead.specs.Written.{printed_tree}
use Rattle.hirhead.specs.HasLines.{HasLines, AllFit}
use Rattle.hirhead.specs.Queries.{MatchesText, AllMatch}
use Rattle.hirhead.proofs.ClassLemmas.{class_utf8, class_len, scalar_len}

abbrev IsByte : ℕ → Type 0
IsByte b = b < 256

same_function : (f g : Ends) → ((i : ℕ) → f i ≡ g i) → f ≡ g
same_function f g each = λ k i. each i k

listed_byte : (h : List ℕ) (i b : ℕ) → All IsByte h → slice_get h i ≡ Some b → b < 256
listed_byte [] i b all e = absurd cc
listed_byte (c ∷ h) zero b all e = let here = All-head IsByte c h all in let same : c ≡ b = cc in omega (arith, here, same)
listed_byte (c ∷ h) (suc i) b all e = listed_byte h i b (All-tail IsByte c h all) e

same_class_end : (a b : List (ℕ × ℕ)) (o : Option ℕ) (i : ℕ) → ((c : ℕ) → o ≡ Some c → is_member a c ≡ is_member b c) →
    class_end a o i ≡ class_end b o i
same_class_end a b None i same = refl
same_class_end a b (Some c) i same = ap (λ (t : Bool). cond t ((i + 1) ∷ []) []) (same c refl)

never_class_end : (o : Option ℕ) (i : ℕ) → [] ≡ class_end [] o i
never_class_end None i = refl
never_class_end (Some c) i = refl

same_character_end : (a b : List (ℕ × ℕ)) (o : Option ℕ) (i : ℕ) → ((c : ℕ) → is_member a c ≡ is_member b c) →
    character_end a o i ≡ character_end b o i
same_character_end a b None i same = refl
same_character_end a b (Some c) i same = rw (same c) refl

never_character_end : (o : Option ℕ) (i : ℕ) → [] ≡ character_end [] o i
never_character_end None i = refl
never_character_end (Some c) i = refl

empty_end : (looks : Looks) (h : List ℕ) (i : ℕ) → preferred_ends looks h empty i ≡ preferred_ends looks h (literal []) i
empty_end looks h i = ap (λ (n : ℕ). n ∷ []) (sym (add-zero i))

-- ---- what is seen to be UTF-8 stays so

pub told_utf8 : (x : Tree) → is_utf8_tree x ≡ true → is_utf8_tree (printed_tree x) ≡ true
told_utf8 empty h = refl
told_utf8 (literal []) h = refl
told_utf8 (literal (b ∷ bytes)) h = h
told_utf8 (byte_class []) h = refl
told_utf8 (byte_class (r ∷ ranges)) h = class_utf8 (r ∷ ranges) h
told_utf8 (char_class []) h = refl
told_utf8 (char_class (r ∷ ranges)) h = refl
told_utf8 (look l) h = refl
told_utf8 (repetition min most greedy x) h = told_utf8 x h
told_utf8 (capture index name x) h = told_utf8 x h
told_utf8 nothing h = refl
told_utf8 (cat x y) h =
    let p = and_parts (is_utf8_tree x) (is_utf8_tree y) h in
    and_from (is_utf8_tree (printed_tree x)) (is_utf8_tree (printed_tree y)) (told_utf8 x p.0) (told_utf8 y p.1)
told_utf8 never h = refl
told_utf8 (alt x y) h =
    let p = and_parts (is_utf8_tree x) (is_utf8_tree y) h in
    and_from (is_utf8_tree (printed_tree x)) (is_utf8_tree (printed_tree y)) (told_utf8 x p.0) (told_utf8 y p.1)

module _ (byte_members : (items : List (ℕ × ℕ)) (b : ℕ) → b < 256 → is_member (class_ranges items) b ≡ is_member items b)
    (scalar_members : (items : List (ℕ × ℕ)) (c : ℕ) → is_member (scalar_ranges items) c ≡ is_member items c) where
  -- ---- lengths and loops

  told_len : (x : Tree) (n : ℕ) → HasLines n x → minimum_len (printed_tree x) ≡ minimum_len x
  told_len empty n h = refl
  told_len (literal []) n h = refl
  told_len (literal (b ∷ bytes)) n h = refl
  told_len (byte_class []) n h = refl
  told_len (byte_class (r ∷ ranges)) n h = class_len byte_members r ranges h.1
  told_len (char_class []) n h = refl
  told_len (char_class (r ∷ ranges)) n h = scalar_len (r ∷ ranges)
  told_len (look l) n h = refl
  told_len (repetition min most greedy x) n h = ap (times min) (told_len x 0 h.4)
  told_len (capture index name x) n h = told_len x 0 h.1
  told_len nothing n h = refl
  told_len (cat x y) n h = ap₂ sum_of_both (told_len x 0 h.0) (told_len y (suc n) h.2)
  told_len never n h = refl
  told_len (alt x y) n h = ap₂ least_of_either (told_len x 0 h.0) (told_len y (suc n) h.2)

  pub loops_told : (x : Tree) (n : ℕ) → HasLines n x → LoopsRead x → LoopsRead (printed_tree x)
  loops_told empty n h l = tt
  loops_told (literal []) n h l = tt
  loops_told (literal (b ∷ bytes)) n h l = tt
  loops_told (byte_class []) n h l = tt
  loops_told (byte_class (r ∷ ranges)) n h l = tt
  loops_told (char_class []) n h l = tt
  loops_told (char_class (r ∷ ranges)) n h l = tt
  loops_told (look a) n h l = tt
  loops_told (repetition min None greedy x) n h l = (subst IsAboveZero (sym (told_len x 0 h.4)) l.0, loops_told x 0 h.4 l.1)
  loops_told (repetition min (Some most) greedy x) n h l = loops_told x 0 h.4 l
  loops_told (capture index name x) n h l = loops_told x 0 h.1 l
  loops_told nothing n h l = tt
  loops_told (cat x y) n h l = (loops_told x 0 h.0 l.0, loops_told y (suc n) h.2 l.1)
  loops_told never n h l = tt
  loops_told (alt x y) n h l = (loops_told x 0 h.0 l.0, loops_told y (suc n) h.2 l.1)

  pub loops_were : (x : Tree) (n : ℕ) → HasLines n x → LoopsRead (printed_tree x) → LoopsRead x
  loops_were empty n h l = tt
  loops_were (literal bytes) n h l = tt
  loops_were (byte_class ranges) n h l = tt
  loops_were (char_class ranges) n h l = tt
  loops_were (look a) n h l = tt
  loops_were (repetition min None greedy x) n h l = (subst IsAboveZero (told_len x 0 h.4) l.0, loops_were x 0 h.4 l.1)
  loops_were (repetition min (Some most) greedy x) n h l = loops_were x 0 h.4 l
  loops_were (capture index name x) n h l = loops_were x 0 h.1 l
  loops_were nothing n h l = tt
  loops_were (cat x y) n h l = (loops_were x 0 h.0 l.0, loops_were y (suc n) h.2 l.1)
  loops_were never n h l = tt
  loops_were (alt x y) n h l = (loops_were x 0 h.0 l.0, loops_were y (suc n) h.2 l.1)

  -- ---- ends and spans

  told_ends : (looks : Looks) (h : List ℕ) → All IsByte h → (x : Tree) → preferred_ends looks h (printed_tree x) ≡ preferred_ends looks h x
  told_ends looks h bytes empty = refl
  told_ends looks h bytes (literal []) =
      same_function (preferred_ends looks h empty) (preferred_ends looks h (literal [])) (empty_end looks h)
  told_ends looks h bytes (literal (b ∷ text)) = refl
  told_ends looks h bytes (byte_class []) =
      same_function (preferred_ends looks h never) (preferred_ends looks h (byte_class [])) (λ i. never_class_end (slice_get h i) i)
  told_ends looks h bytes (byte_class (r ∷ ranges)) =
      same_function (preferred_ends looks h (byte_class (class_ranges (r ∷ ranges)))) (preferred_ends looks h (byte_class (r ∷ ranges)))
      (λ i. same_class_end (class_ranges (r ∷ ranges)) (r ∷ ranges) (slice_get h i) i
      (λ c e. byte_members (r ∷ ranges) c (listed_byte h i c bytes e)))
  told_ends looks h bytes (char_class []) =
      same_function (preferred_ends looks h never) (preferred_ends looks h (char_class [])) (λ i. never_character_end (character_at h i) i)
  told_ends looks h bytes (char_class (r ∷ ranges)) =
      same_function (preferred_ends looks h (char_class (scalar_ranges (r ∷ ranges)))) (preferred_ends looks h (char_class (r ∷ ranges)))
      (λ i. same_character_end (scalar_ranges (r ∷ ranges)) (r ∷ ranges) (character_at h i) i (scalar_members (r ∷ ranges)))
  told_ends looks h bytes (look l) = refl
  told_ends looks h bytes (repetition min most greedy x) = ap (repeated h min most greedy) (told_ends looks h bytes x)
  told_ends looks h bytes (capture index name x) = told_ends looks h bytes x
  told_ends looks h bytes nothing = refl
  told_ends looks h bytes (cat x y) =
      let one_behind : Ends → Ends → Ends = λ f g i. flat_map g (f i) in
      ap₂ one_behind (told_ends looks h bytes x) (told_ends looks h bytes y)
  told_ends looks h bytes never = refl
  told_ends looks h bytes (alt x y) =
      let either : Ends → Ends → Ends = λ f g i. f i ++ g i in
      ap₂ either (told_ends looks h bytes x) (told_ends looks h bytes y)

  pub ends_stay : (re : Re) (x : Tree) → HasLines 0 x → SameEnds re x → SameEnds re (printed_tree x)
  ends_stay re x has same = record {
    at = λ h bytes loops k i within.
        same.at h bytes (loops_were x 0 has loops) k i within
        ∙ ap (λ (f : Ends). first_that_goes_on (λ j. trace_end (k j)) (f i)) (sym (told_ends (pattern_looks h) h bytes x));
  }

  meant : (looks : Looks) (h : List ℕ) (x y : Tree) → preferred_ends looks h x ≡ preferred_ends looks h y → (i j : ℕ) →
      Means looks h x i j → Means looks h y i j
  meant looks h x y e i j m =
      preferred_ends_sound looks h y i j (subst (λ (f : Ends). Has (f i) j) e (preferred_ends_complete looks h x i j m))

  pub spans_stay : (re : Re) (x : Tree) → SameSpans re x → SameSpans re (printed_tree x)
  spans_stay re x same = record {
    at = λ h bytes i j within.
        let e = told_ends (pattern_looks h) h bytes x in
        let s = same.at h bytes i j within in (
          λ m. meant (pattern_looks h) h x (printed_tree x) (sym e) i j (s.0 m),
          λ m. s.1 (meant (pattern_looks h) h (printed_tree x) x e i j m),
        );
  }

  -- ---- patterns

  matched : (config : Config) (x : Tree) (r : Option (Nested Re × Names)) → HasLines 0 x →
      IsSomeAnd r (λ (re, names). (re.depth ≤ config.nest_limit) × SameEnds re.value x × SameSpans re.value x × HasNames names x) →
      IsSomeAnd r (λ (re, names). (re.depth ≤ config.nest_limit) × SameEnds re.value (printed_tree x) × SameSpans re.value (printed_tree x))
  matched config x None has m = absurd m
  matched config x (Some (re, names)) has m = (m.0, ends_stay re.value x has m.1, spans_stay re.value x m.2)

  text_matched : (config : Config) (text : List ℕ) (x : Tree) → HasLines 0 x → MeansText config text x →
      MatchesText config text (printed_tree x)
  unfolding MeansText MatchesText
  text_matched config text x has m = matched config x (read config (chars text)) has m

  pub all_matched : (config : Config) (texts : List (List ℕ)) (xs : List Tree) → AllMean config texts xs → AllFit 250 xs →
      AllMatch config texts (map printed_tree xs)
  all_matched config [] [] m fits = tt
  all_matched config [] (x ∷ xs) m fits = absurd m
  all_matched config (t ∷ ts) [] m fits = absurd m
  all_matched config (t ∷ ts) (x ∷ xs) m fits = (text_matched config t x fits.0.0 m.0, all_matched config ts xs m.1 fits.1)

pub all_utf8 : (xs : List Tree) → All (λ x. IsTrue (is_utf8_tree x)) xs → All (λ x. IsTrue (is_utf8_tree x)) (map printed_tree xs)
all_utf8 [] h = All-nil (λ x. IsTrue (is_utf8_tree x))
all_utf8 (x ∷ xs) h =
    All-cons (λ x. IsTrue (is_utf8_tree x)) (printed_tree x) (map printed_tree xs)
    (told_utf8 x (All-head (λ x. IsTrue (is_utf8_tree x)) x xs h))
    (all_utf8 xs (All-tail (λ x. IsTrue (is_utf8_tree x)) x xs h))
