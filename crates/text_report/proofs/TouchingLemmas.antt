-- Matches of a text before a line, in it and after it.
use Rattle.std.proofs.Common.{◌≡◌, ◌≤◌, ◌<◌, ℕ, zero, suc, ◌+◌, ◌&&◌, ◌||◌, Bool, true, false, cond, nat_le, nat_lt, List, [], ◌∷◌, ◌++◌, drop, get_or}
use Rattle.std.proofs.Common.{length, map, refl, sym, ap, ◌∙◌, subst, arith, append_assoc, append-nil, if◌then◌else◌}
use Rattle.std.proofs.Math.Seq.{drop-cons}
use Rattle.std.specs.List.{filter, list_any}
use Rattle.search_types.specs.declared.span.Span.{Span}
use Rattle.line_search.specs.LineMatchers.{span_pair}
use Rattle.text_report.specs.Touching.{StartInOrder, NoneStartsBefore, begins_between, counts_at, part_at, touches_at}

le_false : (a b : ℕ) → b < a → nat_le a b ≡ false
le_false a b less = grind (arith, less)

lt_false : (a b : ℕ) → b ≤ a → nat_lt a b ≡ false
lt_false a b few = grind (arith, few)

and_false : (b t : Bool) → t ≡ false → (b && t) ≡ false
and_false true t e = e
and_false false t e = refl

-- ---- a match before a line, and one after it
begins_not : (place start end : ℕ) (s : ℕ × ℕ) → s.0 < place → place ≤ start → begins_between start end s ≡ false
begins_not place start end s less low = ap (λ b. b && nat_le s.0 end) (le_false start s.0 (omega (arith, less, low)))

touches_not : (place start end : ℕ) (s : ℕ × ℕ) → s.0 < place → s.1 ≤ place → place ≤ start → touches_at start end s ≡ false
touches_not place start end s less few low = by (nat_lt s.0 s.1)
  where
    by : (b : Bool) → (if b then nat_le s.0 end && nat_lt start s.1 else begins_between start end s) ≡ false
    by true = and_false (nat_le s.0 end) (nat_lt start s.1) (lt_false start s.1 (omega (arith, few, low)))
    by false = begins_not place start end s less low

pub counts_not : (begun : Bool) (place start end : ℕ) (s : ℕ × ℕ) → s.0 < place → s.1 ≤ place → place ≤ start →
    counts_at begun start end s ≡ false
counts_not true place start end s less few low = begins_not place start end s less low
counts_not false place start end s less few low = touches_not place start end s less few low

begins_after : (start end : ℕ) (s : ℕ × ℕ) → end < s.0 → begins_between start end s ≡ false
begins_after start end s less = and_false (nat_le start s.0) (nat_le s.0 end) (le_false s.0 end less)

touches_after : (start end : ℕ) (s : ℕ × ℕ) → end < s.0 → touches_at start end s ≡ false
touches_after start end s less = by (nat_lt s.0 s.1)
  where
    by : (b : Bool) → (if b then nat_le s.0 end && nat_lt start s.1 else begins_between start end s) ≡ false
    by true = ap (λ b. b && nat_lt start s.1) (le_false s.0 end less)
    by false = begins_after start end s less

counts_after : (begun : Bool) (start end : ℕ) (s : ℕ × ℕ) → end < s.0 → counts_at begun start end s ≡ false
counts_after true start end s less = begins_after start end s less
counts_after false start end s less = touches_after start end s less

-- ---- a test of several matches
abbrev has_item : List (ℕ × ℕ) → Bool
has_item [] = false
has_item (s ∷ found) = true

module _ (p : ℕ × ℕ → Bool) where
  filter_one : (s : ℕ × ℕ) (found : List (ℕ × ℕ)) (b : Bool) → p s ≡ b → filter p (s ∷ found) ≡ (if b then s ∷ filter p found else filter p found)
  filter_one s found true e = ap (λ b. cond b (s ∷ filter p found) (filter p found)) e
  filter_one s found false e = ap (λ b. cond b (s ∷ filter p found) (filter p found)) e

  any_one : (s : ℕ × ℕ) (found : List (ℕ × ℕ)) (b : Bool) → p s ≡ b → list_any p (s ∷ found) ≡ (b || list_any p found)
  any_one s found b e = ap (λ t. t || list_any p found) e

  -- some match passes a test if any is left by it
  any_more : (s : ℕ × ℕ) (found : List (ℕ × ℕ)) → list_any p found ≡ has_item (filter p found) → (b : Bool) → p s ≡ b →
      list_any p (s ∷ found) ≡ has_item (filter p (s ∷ found))
  any_more s found rest true e = any_one s found true e ∙ sym (ap has_item (filter_one s found true e))
  any_more s found rest false e = any_one s found false e ∙ rest ∙ sym (ap has_item (filter_one s found false e))

  any_by : (found : List (ℕ × ℕ)) → list_any p found ≡ has_item (filter p found)
  any_by [] = refl
  any_by (s ∷ found) = any_more s found (any_by found) (p s) refl

  pub same_any : (a b : List (ℕ × ℕ)) → filter p a ≡ filter p b → list_any p a ≡ list_any p b
  same_any a b same = any_by a ∙ ap has_item same ∙ sym (any_by b)

-- ---- matches in order
pub weaker : (a b : ℕ) (found : List (ℕ × ℕ)) → a ≤ b → NoneStartsBefore b found → NoneStartsBefore a found
weaker a b [] low all = tt
weaker a b (s ∷ found) low all = (omega (arith, low, all.0), weaker a b found low all.1)

pub ordered_from : (n : ℕ) (found : List Span) → StartInOrder (map span_pair found) → StartInOrder (map span_pair (drop n found))
ordered_from zero found order = order
ordered_from (suc n) [] order = tt
ordered_from (suc n) (s ∷ found) order = ordered_from n found order.1

-- the matches from an index on
at_index : (found : List Span) (k : ℕ) (d : Span) → k < length found →
    map span_pair (drop k found) ≡ span_pair (get_or found k d) ∷ map span_pair (drop (k + 1) found)
at_index found k d below =
    ap (map span_pair) (drop-cons found k d below)
    ∙ ap (λ n. span_pair (get_or found k d) ∷ map span_pair (drop n found)) (let e : suc k ≡ k + 1 = omega arith in e)

module _ (begun : Bool) (start end : ℕ) where
  abbrev p : ℕ × ℕ → Bool
  p = counts_at begun start end

  none_left : (low : ℕ) (found : List (ℕ × ℕ)) → end < low → NoneStartsBefore low found → filter p found ≡ []
  none_left low [] less all = refl
  none_left low (s ∷ found) less all =
      filter_one p s found false (counts_after begun start end s (omega (arith, less, all.0))) ∙ none_left low found less all.1

  pub none_after : (s : ℕ × ℕ) (found : List (ℕ × ℕ)) → end < s.0 → StartInOrder (s ∷ found) → filter p (s ∷ found) ≡ []
  none_after s found less order =
      filter_one p s found false (counts_after begun start end s less) ∙ none_left s.0 found less order.0

  pub none_has : (s : ℕ × ℕ) (found : List (ℕ × ℕ)) → end < s.0 → StartInOrder (s ∷ found) → list_any p (s ∷ found) ≡ false
  none_has s found less order = same_any p (s ∷ found) [] (none_after s found less order)

  pub other_has : (s : ℕ × ℕ) (found : List (ℕ × ℕ)) → p s ≡ false → list_any p (s ∷ found) ≡ list_any p found
  other_has s found e = any_one p s found false e

  parts_by : (size : ℕ) (s : ℕ × ℕ) (found : List (ℕ × ℕ)) (b : Bool) → p s ≡ b →
      map (part_at start end size) (filter p (s ∷ found))
      ≡ map (part_at start end size) (filter p (s ∷ [])) ++ map (part_at start end size) (filter p found)
  parts_by size s found true e =
      ap (map (part_at start end size)) (filter_one p s found true e)
      ∙ sym (ap (λ l. map (part_at start end size) l ++ map (part_at start end size) (filter p found)) (filter_one p s [] true e))
  parts_by size s found false e =
      ap (map (part_at start end size)) (filter_one p s found false e)
      ∙ sym (ap (λ l. map (part_at start end size) l ++ map (part_at start end size) (filter p found)) (filter_one p s [] false e))

  -- ---- the loops over matches
  module _ (found : List Span) (k : ℕ) (d : Span) (below : k < length found) where
    abbrev s : ℕ × ℕ
    s = span_pair (get_or found k d)

    abbrev rest : List (ℕ × ℕ)
    rest = map span_pair (drop (k + 1) found)

    -- a match that is skipped
    pub passed : (place : ℕ) → (get_or found k d).start < place → (get_or found k d).end ≤ place → place ≤ start →
        filter p (map span_pair (drop k found)) ≡ filter p rest
    passed place less few low =
        ap (filter p) (at_index found k d below) ∙ filter_one p s rest false (counts_not begun place start end s less few low)

    order_there : StartInOrder (map span_pair (drop k found)) → StartInOrder (s ∷ rest)
    order_there order = subst StartInOrder (at_index found k d below) order

    abbrev HasLeft : ℕ → Type 0
    HasLeft n = StartInOrder (map span_pair found) → StartInOrder (map span_pair (drop n found))
        × (list_any p (map span_pair found) ≡ list_any p (map span_pair (drop n found)))

    pub has_on : p s ≡ false → HasLeft k → HasLeft (k + 1)
    has_on e left order =
        let was = left order in
        ((order_there was.0).1, was.1 ∙ ap (list_any p) (at_index found k d below) ∙ other_has s rest e)

    pub has_none : end < (get_or found k d).start → HasLeft k → StartInOrder (map span_pair found) → false ≡ list_any p (map span_pair found)
    has_none less left order =
        let was = left order in
        sym (was.1 ∙ ap (list_any p) (at_index found k d below) ∙ none_has s rest less (order_there was.0))

    module _ (size : ℕ) (before now next : List (ℕ × ℕ)) where
      abbrev parts_of : List (ℕ × ℕ) → List (ℕ × ℕ)
      parts_of l = map (part_at start end size) (filter p l)

      abbrev PartsLeft : ℕ → List (ℕ × ℕ) → Type 0
      PartsLeft n parts = StartInOrder (map span_pair found) → StartInOrder (map span_pair (drop n found))
          × (parts ++ parts_of (map span_pair (drop n found)) ≡ before ++ parts_of (map span_pair found))

      pub parts_on : next ≡ now ++ parts_of (s ∷ []) → PartsLeft k now → PartsLeft (k + 1) next
      parts_on pushed left order =
          let was = left order in (
            (order_there was.0).1,
            ap (λ l. l ++ parts_of rest) pushed
                ∙ append_assoc now (parts_of (s ∷ [])) (parts_of rest)
                ∙ ap (λ l. now ++ l) (sym (ap parts_of (at_index found k d below) ∙ parts_by size s rest (p s) refl))
                ∙ was.1,
          )

      pub parts_end : end < (get_or found k d).start → PartsLeft k now → StartInOrder (map span_pair found) →
          now ≡ before ++ parts_of (map span_pair found)
      parts_end less left order =
          let was = left order in
          sym (append-nil now)
          ∙ ap (λ l. now ++ map (part_at start end size) l)
          (sym (ap (filter p) (at_index found k d below) ∙ none_after s rest less (order_there was.0)))
          ∙ was.1
