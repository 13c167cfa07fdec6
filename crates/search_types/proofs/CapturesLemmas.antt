-- The spans of groups, and what they cut out of a haystack.
use Rattle.std.proofs.Common.{◌≡◌, ℕ, zero, suc, ◌+◌, ◌-◌, ◌<◌, ◌≤◌, List, [], ◌∷◌, ◌++◌, take, drop, Option, Some, None, Bool, ap, ◌∙◌}
use Rattle.std.proofs.Common.{sym, arith, refl, length, map, set, append-nil}
use Rattle.std.proofs.lemmas.Bool.Decides.{nat_tests}
use Rattle.std.proofs.lemmas.List.{append_assoc, take_all, take_more_set, map-set, length-map}
use Rattle.std.specs.Option.{option_map, option_and_then}
use Rattle.search_types.specs.declared.span.Span.{Span}
use Rattle.search_types.specs.Groups.{Groups, groups_of, slot}
use Rattle.search_types.specs.CapturesLends.{with_slots}
use Rattle.search_types.specs.CapturesValue.{CapturesValue, group_span, spans_from, first_slot, cut_span, cut_spans}

-- the first span and the ones after it
pub spans_first : (c : CapturesValue) (g end : ℕ) → g < end → spans_from c g (end - g) ≡ group_span c g ∷ spans_from c (g + 1)
    (end - (g + 1))
spans_first c g end h =
    let n : end - g ≡ suc (end - (g + 1)) = omega arith in
    ap (spans_from c g) n

abbrev pub captures_of : Groups → Option ℕ → List (Option ℕ) → CapturesValue
captures_of gs p slots = record { groups = gs; pattern = p; slots = slots }

-- the slots that were passed come back, in their number as the vector counts it
pub slots_written : (gs : Groups) (p : Option ℕ) (slots written : List (Option ℕ)) (n : ℕ) → n ≡ length slots →
    captures_of gs p (take n (written ++ drop (length written) slots)) ≡ with_slots (captures_of gs p slots) written
slots_written gs p slots written n e = ap (λ m. captures_of gs p (take m (written ++ drop (length written) slots))) e

-- these parts in front of the others, if there are any
abbrev pub onto_parts : List (List ℕ) → Option (List (List ℕ)) → Option (List (List ℕ))
onto_parts front rest = option_map (λ parts. front ++ parts) rest

onto_twice : (xs ys : List (List ℕ)) (o : Option (List (List ℕ))) → onto_parts xs (onto_parts ys o) ≡ onto_parts (xs ++ ys) o
onto_twice xs ys None = refl
onto_twice xs ys (Some zs) = ap Some (sym (append_assoc xs ys zs))

module _ (cuts : Span → Bool) (h : List ℕ) where
  -- the next span cuts nothing out, or it does
  pub cut_refused : (n : ℕ) (spans rest : List Span) (s : Span) → spans ≡ s ∷ rest → None ≡ cut_span cuts h s →
      cut_spans cuts h (suc n) spans ≡ None
  cut_refused n spans rest s e f =
      ap (cut_spans cuts h (suc n)) e ∙ ap (λ o. option_and_then (λ part. option_map (λ parts. part ∷ parts) (cut_spans cuts h n rest)) o)
      (sym f)

  pub cut_goes : (n : ℕ) (spans rest : List Span) (s : Span) (part : List ℕ) → spans ≡ s ∷ rest → Some part ≡ cut_span cuts h s →
      cut_spans cuts h (suc n) spans ≡ onto_parts (part ∷ []) (cut_spans cuts h n rest)
  cut_goes n spans rest s part e f =
      ap (cut_spans cuts h (suc n)) e ∙ ap (λ o. option_and_then (λ part. option_map (λ parts. part ∷ parts) (cut_spans cuts h n rest)) o)
      (sym f)

-- what the loop over the groups after the first one keeps: if the next span cuts nothing out, if it does, and at the end
pub none_from_here : (cuts : Span → Bool) (h : List ℕ) (all : Option (List (List ℕ))) (front : List (List ℕ)) (index end : ℕ)
    (spans : List Span) →
    all ≡ onto_parts front (cut_spans cuts h (end - index) spans) → index < end → ((n : ℕ) → cut_spans cuts h (suc n) spans ≡ None) →
    None ≡ all
none_from_here cuts h all front index end spans reported below none =
    let n : end - index ≡ suc (end - (index + 1)) = omega arith in
    sym (reported ∙ ap (λ m. onto_parts front (cut_spans cuts h m spans)) n ∙ ap (onto_parts front) (none (end - (index + 1))))

module _ {H : Type 0} (bytes : H → List ℕ) where
  -- the parts so far, once one more is stored
  store : (parts : List H) (index : ℕ) (part : H) → index < length parts →
      take (index + 1) (map bytes (set parts index part)) ≡ take index (map bytes parts) ++ bytes part ∷ []
  store parts index part h = ap (take (index + 1)) (map-set bytes parts index part)
      ∙ take_more_set (map bytes parts) index (bytes part) (omega (arith, length-map parts bytes))

  pub parts_more : (cuts : Span → Bool) (h : List ℕ) (all : Option (List (List ℕ))) (whole part : H) (parts : List H) (index end : ℕ)
      (spans rest : List Span) (s : Span) →
      length parts ≡ end → index < end →
      all ≡ onto_parts (bytes whole ∷ take index (map bytes parts)) (cut_spans cuts h (end - index) spans) →
      spans ≡ s ∷ rest → Some (bytes part) ≡ cut_span cuts h s →
      all ≡ onto_parts (bytes whole ∷ take (index + 1) (map bytes (set parts index part))) (cut_spans cuts h (end - (index + 1)) rest)
  parts_more cuts h all whole part parts index end spans rest s len below reported e f =
      let front = bytes whole ∷ take index (map bytes parts) in
      let left = cut_spans cuts h (end - (index + 1)) rest in
      let n : end - index ≡ suc (end - (index + 1)) = omega arith in
      reported ∙ ap (λ m. onto_parts front (cut_spans cuts h m spans)) n
      ∙ ap (onto_parts front) (cut_goes cuts h (end - (index + 1)) spans rest s (bytes part) e f)
      ∙ onto_twice front (bytes part ∷ []) left
      ∙ ap (λ texts. onto_parts (bytes whole ∷ texts) left) (sym (store parts index part (omega arith)))

  pub parts_end : (cuts : Span → Bool) (h : List ℕ) (all : Option (List (List ℕ))) (whole : H) (parts : List H) (index end : ℕ)
      (spans : List Span) →
      length parts ≡ end → end ≤ index →
      all ≡ onto_parts (bytes whole ∷ take index (map bytes parts)) (cut_spans cuts h (end - index) spans) →
      Some (bytes whole ∷ map bytes parts) ≡ all
  parts_end cuts h all whole parts index end spans len past reported =
      let n : end - index ≡ 0 = omega arith in
      let texts = take_all index (map bytes parts) (omega (arith, length-map parts bytes)) in
      sym (reported ∙ ap (λ m. onto_parts (bytes whole ∷ take index (map bytes parts)) (cut_spans cuts h m spans)) n
      ∙ ap (λ ts. Some (bytes whole ∷ ts)) (append-nil _ ∙ texts))

-- the slots of a single pattern's groups, by arithmetic and by their layout
pub one_pattern : (gs : Groups) (g : ℕ) → length gs ≡ 1 → g < length (groups_of gs 0) → first_slot gs 0 g ≡ slot gs 0 g
one_pattern [] g one below = absurd (omega arith)
one_pattern (names ∷ []) zero one below = grind (arith, nat_tests)
one_pattern (names ∷ []) (suc g) one below = grind (arith, nat_tests)
one_pattern (names ∷ (more ∷ rest)) g one below = absurd (omega arith)
