-- One tree for several prefers the ends that the alternation of the trees does, and has its spans.
use Rattle.std.proofs.Common.{◌≡◌, ◌↔◌, ℕ, true, false, List, [], ◌∷◌, ◌++◌, All, refl, sym, ap, ap₂, ◌∙◌, subst, true≢false}
use Rattle.std.proofs.Common.{◌+◌, ◌<◌, append_assoc, append-nil, get_or, length, take}
use Rattle.std.proofs.lemmas.List.{take_more}
use Rattle.std.proofs.lemmas.List.Elements.{All-head, All-tail}
use Rattle.regex_hir.specs.Re.{Re}
use Rattle.hir_core.specs.Facts.{LoopsRead}
use Rattle.hir_core.specs.Means.{Looks, Means}
use Rattle.hir_core.specs.PreferredEnds.{preferred_ends, Has}
use Rattle.hir_core.specs.Tree.{Tree, empty, literal, byte_class, char_class, look, repetition, capture, nothing, cat, never, alt}
use Rattle.hir_core.specs.Tree.{concat, alternation}
use Rattle.hir_core.proofs.ForCallers.{preferred_ends_sound, preferred_ends_complete}
use Rattle.pattern_text.specs.SameEnds.{pattern_looks, trace_end, first_that_goes_on, SameEnds, SameSpans}
use Rattle.line_search.specs.Joined.{has_parts, parts_of, one_or_all, joined}

-- ---- the parts of trees
pub own_part : (x : Tree) → has_parts x ≡ false → parts_of x ≡ x ∷ []
own_part empty whole = refl
own_part (literal bytes) whole = refl
own_part (byte_class ranges) whole = refl
own_part (char_class ranges) whole = refl
own_part (look l) whole = refl
own_part (repetition min most greedy x) whole = refl
own_part (capture index name x) whole = absurd (true≢false whole)
own_part nothing whole = refl
own_part (cat x y) whole = refl
own_part never whole = absurd (true≢false whole)
own_part (alt x y) whole = absurd (true≢false whole)

pub concat_whole : (xs : List Tree) → has_parts (concat xs) ≡ false
concat_whole [] = refl
concat_whole (x ∷ xs) = refl

pub alternation_parted : (xs : List Tree) → has_parts (alternation xs) ≡ true
alternation_parted [] = refl
alternation_parted (x ∷ xs) = refl

pub parts_of-append : (xs ys : List Tree) → parts_of (alternation (xs ++ ys)) ≡ parts_of (alternation xs) ++ parts_of (alternation ys)
parts_of-append [] ys = refl
parts_of-append (x ∷ xs) ys =
    ap (λ (t : List Tree). parts_of x ++ t) (parts_of-append xs ys)
    ∙ sym (append_assoc (parts_of x) (parts_of (alternation xs)) (parts_of (alternation ys)))

-- one more tree, with its parts
pub one_more_part : (xs : List Tree) (x : Tree) → parts_of (alternation (xs ++ x ∷ [])) ≡ parts_of (alternation xs) ++ parts_of x
one_more_part xs x =
    parts_of-append xs (x ∷ []) ∙ ap (λ (t : List Tree). parts_of (alternation xs) ++ t) (append-nil (parts_of x))

-- the parts of one more tree follow those of the trees before it
pub adds_parts : (xs : List Tree) (n : ℕ) (x : Tree) (before old new : List Tree) → n < length xs → x ≡ get_or xs n x →
    old ≡ before ++ parts_of (alternation (take n xs)) → new ≡ old ++ parts_of x →
    new ≡ before ++ parts_of (alternation (take (n + 1) xs))
adds_parts xs n x before old new below at was is =
    is ∙ ap (λ (t : List Tree). t ++ parts_of x) was ∙ append_assoc before (parts_of (alternation (take n xs))) (parts_of x)
    ∙ ap (λ (t : List Tree). before ++ t) (sym (one_more_part (take n xs) x)
    ∙ ap (λ (t : List Tree). parts_of (alternation t))
    (ap (λ y. take n xs ++ y ∷ []) at ∙ sym (take_more xs n x below)))

-- ---- preferred ends
module _ (looks : Looks) (h : List ℕ) (i : ℕ) where
  ends_append : (xs ys : List Tree) → preferred_ends looks h (alternation (xs ++ ys)) i
      ≡ preferred_ends looks h (alternation xs) i ++ preferred_ends looks h (alternation ys) i
  ends_append [] ys = refl
  ends_append (x ∷ xs) ys =
      ap (λ (t : List ℕ). preferred_ends looks h x i ++ t) (ends_append xs ys)
      ∙ sym (append_assoc (preferred_ends looks h x i) (preferred_ends looks h (alternation xs) i)
      (preferred_ends looks h (alternation ys) i))

  one_end : (x : Tree) → preferred_ends looks h (alternation (x ∷ [])) i ≡ preferred_ends looks h x i
  one_end x = append-nil (preferred_ends looks h x i)

  parts_ends : (x : Tree) → preferred_ends looks h (alternation (parts_of x)) i ≡ preferred_ends looks h x i
  parts_ends empty = one_end empty
  parts_ends (literal bytes) = one_end (literal bytes)
  parts_ends (byte_class ranges) = one_end (byte_class ranges)
  parts_ends (char_class ranges) = one_end (char_class ranges)
  parts_ends (look l) = one_end (look l)
  parts_ends (repetition min most greedy x) = one_end (repetition min most greedy x)
  parts_ends (capture index name x) = parts_ends x
  parts_ends nothing = one_end nothing
  parts_ends (cat x y) = one_end (cat x y)
  parts_ends never = refl
  parts_ends (alt x y) = ends_append (parts_of x) (parts_of y) ∙ ap₂ (λ (s t : List ℕ). s ++ t) (parts_ends x) (parts_ends y)

  one_or_all_ends : (xs : List Tree) → preferred_ends looks h (one_or_all xs) i ≡ preferred_ends looks h (alternation xs) i
  one_or_all_ends [] = refl
  one_or_all_ends (x ∷ []) = sym (one_end x)
  one_or_all_ends (x ∷ y ∷ xs) = refl

  pub joined_ends : (xs : List Tree) → preferred_ends looks h (joined xs) i ≡ preferred_ends looks h (alternation xs) i
  joined_ends [] = refl
  joined_ends (x ∷ []) = sym (one_end x)
  joined_ends (x ∷ y ∷ xs) = one_or_all_ends (parts_of (alternation (x ∷ y ∷ xs))) ∙ parts_ends (alternation (x ∷ y ∷ xs))

-- so it has the same spans
module _ (looks : Looks) (h : List ℕ) (i j : ℕ) where
  spans_along : (x y : Tree) → preferred_ends looks h x i ≡ preferred_ends looks h y i → Means looks h x i j → Means looks h y i j
  spans_along x y same m =
      preferred_ends_sound looks h y i j (subst (λ (ends : List ℕ). Has ends j) same (preferred_ends_complete looks h x i j m))

  joined_spans : (xs : List Tree) → Means looks h (joined xs) i j ↔ Means looks h (alternation xs) i j
  joined_spans xs = (
    spans_along (joined xs) (alternation xs) (joined_ends looks h i xs),
    spans_along (alternation xs) (joined xs) (sym (joined_ends looks h i xs)),
  )

-- ---- the bodies of repetitions
loops_append : (xs ys : List Tree) → LoopsRead (alternation (xs ++ ys)) ↔ (LoopsRead (alternation xs) × LoopsRead (alternation ys))
loops_append [] ys = (λ all. (tt, all), λ both. both.1)
loops_append (x ∷ xs) ys =
    let rest = loops_append xs ys in (
      λ all. let both = rest.0 all.1 in ((all.0, both.0), both.1),
      λ both. (both.0.0, rest.1 (both.0.1, both.1)),
    )

one_loop : (x : Tree) → LoopsRead (alternation (x ∷ [])) ↔ LoopsRead x
one_loop x = (λ all. all.0, λ it. (it, tt))

parts_loops : (x : Tree) → LoopsRead (alternation (parts_of x)) ↔ LoopsRead x
parts_loops empty = one_loop empty
parts_loops (literal bytes) = one_loop (literal bytes)
parts_loops (byte_class ranges) = one_loop (byte_class ranges)
parts_loops (char_class ranges) = one_loop (char_class ranges)
parts_loops (look l) = one_loop (look l)
parts_loops (repetition min most greedy x) = one_loop (repetition min most greedy x)
parts_loops (capture index name x) = parts_loops x
parts_loops nothing = one_loop nothing
parts_loops (cat x y) = one_loop (cat x y)
parts_loops never = (λ all. all, λ it. it)
parts_loops (alt x y) =
    let both = loops_append (parts_of x) (parts_of y) in
    let first = parts_loops x in
    let second = parts_loops y in (
      λ all. let each = both.0 all in (first.0 each.0, second.0 each.1),
      λ it. both.1 (first.1 it.0, second.1 it.1),
    )

one_or_all_loops : (xs : List Tree) → LoopsRead (one_or_all xs) ↔ LoopsRead (alternation xs)
one_or_all_loops [] = (λ all. all, λ it. it)
one_or_all_loops (x ∷ []) = (λ it. (it, tt), λ all. all.0)
one_or_all_loops (x ∷ y ∷ xs) = (λ all. all, λ it. it)

joined_loops : (xs : List Tree) → LoopsRead (joined xs) ↔ LoopsRead (alternation xs)
joined_loops [] = (λ all. all, λ it. it)
joined_loops (x ∷ []) = (λ it. (it, tt), λ all. all.0)
joined_loops (x ∷ y ∷ xs) =
    let one = one_or_all_loops (parts_of (alternation (x ∷ y ∷ xs))) in
    let parts = parts_loops (alternation (x ∷ y ∷ xs)) in
    (λ it. parts.0 (one.0 it), λ all. one.1 (parts.1 all))

all_loops : (xs : List Tree) → All LoopsRead xs → LoopsRead (alternation xs)
all_loops [] all = tt
all_loops (x ∷ xs) all = (All-head LoopsRead x xs all, all_loops xs (All-tail LoopsRead x xs all))

-- if the bodies of repetitions in each tree consume a byte, so do those of the one tree
pub loops_joined : (xs : List Tree) → All LoopsRead xs → LoopsRead (joined xs)
loops_joined xs all = (joined_loops xs).1 (all_loops xs all)

-- ---- against a pattern
pub same_joined : (a : Re) (xs : List Tree) → SameEnds a (alternation xs) → SameEnds a (joined xs)
same_joined a xs same = record {
  at = λ h bytes loops k i within.
      same.at h bytes ((joined_loops xs).0 loops) k i within
      ∙ ap (first_that_goes_on (λ j. trace_end (k j))) (sym (joined_ends (pattern_looks h) h i xs));
}

pub spans_joined : (a : Re) (xs : List Tree) → SameSpans a (alternation xs) → SameSpans a (joined xs)
spans_joined a xs same = record {
  at = λ h bytes i j within.
      let spans = same.at h bytes i j within in
      let one = joined_spans (pattern_looks h) h i j xs in
      (λ m. one.1 (spans.0 m), λ m. spans.1 (one.0 m));
}
