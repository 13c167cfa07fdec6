-- The next line in the first part of a block is the next line of the block, if the part ends where a line does.
use Rattle.std.proofs.Common.{◌≡◌, ◌≤◌, ◌<◌, inl, inr, ℕ, zero, suc, ◌+◌, ◌-◌, Bool, true, false, cond, List, [], ◌∷◌, length, slice_get}
use Rattle.std.proofs.Common.{slice_range, take, drop, Some, None, nat_lt, true≢false, refl, sym, ap, ◌∙◌, subst, arith, length-drop, lt-ltb}
use Rattle.std.proofs.lemmas.Bool.{cases_lt}
use Rattle.std.proofs.lemmas.List.{drop-take, length-take-le, take_all, take-take}
use Rattle.std.proofs.lemmas.List.Quantifiers.{position-Some}
use Rattle.std.proofs.lemmas.Option.{get_or_from_slice_get}
use Rattle.std.specs.List.{position, position_or_len}
use Rattle.line_trees.proofs.ForCallers.{get_taken, get_dropped}
use Rattle.line_search.specs.Candidates.{IsLineStart, IsNextLine, HaveNoMatch, HasMatchAt}
use Rattle.line_search.specs.Lines.{ended, searched}
use Rattle.line_search.specs.Searchers.{IsMatchReported}
use Rattle.line_search.specs.declared.candidates.Reached.{Reached}
use Rattle.line_search.specs.declared.patterns.PatternOptions.{PatternOptions}
use Rattle.line_search.proofs.FeedPlaceLemmas.{is_feed, first_at, first_within, some_at}

-- ---- the first line feed
same_by : (m x : ℕ) (xs : List ℕ) → (position_or_len is_feed xs < m → position_or_len is_feed (take m xs) ≡ position_or_len is_feed xs) →
    (v : Bool) → is_feed x ≡ v → position_or_len is_feed (x ∷ xs) < suc m →
    position_or_len is_feed (x ∷ take m xs) ≡ position_or_len is_feed (x ∷ xs)
same_by m x xs rest true e less = first_at x (take m xs) true e ∙ sym (first_at x xs true e)
same_by m x xs rest false e less =
    first_at x (take m xs) false e ∙ ap (λ n. 1 + n) (rest (omega (arith, less, first_at x xs false e))) ∙ sym (first_at x xs false e)

same_first : (m : ℕ) (xs : List ℕ) → position_or_len is_feed xs < m → position_or_len is_feed (take m xs) ≡ position_or_len is_feed xs
same_first zero xs less = absurd (omega (arith, less))
same_first (suc m) [] less = refl
same_first (suc m) (x ∷ xs) less = same_by m x xs (same_first m xs) (is_feed x) refl less

found_in_part : (text : List ℕ) (m len : ℕ) → position is_feed text ≡ Some len → len < m → position is_feed (take m text) ≡ Some len
found_in_part text m len found less = elim (cases_lt m (length text)) [
  | inl short ↦
      let at = some_at (nat_lt (position_or_len is_feed text) (length text)) (position_or_len is_feed text) len found in
      let same : position_or_len is_feed (take m text) ≡ position_or_len is_feed text = same_first m text (omega (arith, less, at.1)) in
      let long : length (take m text) ≡ m = length-take-le m text (omega (arith, short)) in
      ap (λ b. cond b (Some (position_or_len is_feed (take m text))) None)
      (lt-ltb (position_or_len is_feed (take m text)) (length (take m text)) (omega (arith, same, at.1, less, long)))
      ∙ ap Some (same ∙ at.1)
  | inr all ↦ ap (position is_feed) (take_all m text all) ∙ found
]

-- no later than any other
not_after : (text : List ℕ) (len k : ℕ) → position is_feed text ≡ Some len → slice_get text k ≡ Some 10 → len ≤ k
not_after text len k found feed = elim (cases_lt k len) [
  | inl less ↦
      absurd (true≢false (sym (ap is_feed (get_or_from_slice_get text k 10 10 feed)) ∙ (position-Some is_feed text len 10 found).2 k less))
  | inr over ↦ over
]

-- ---- a part of a block
dropped_part : (block : List ℕ) (s end : ℕ) → s ≤ end → drop s (take end block) ≡ take (end - s) (drop s block)
dropped_part block s end low =
    let whole : end ≡ s + (end - s) = omega (arith, low) in
    ap (λ n. drop s (take n block)) whole ∙ drop-take s (end - s) block

range_in_part : (block : List ℕ) (at s end : ℕ) → at ≤ end → s ≤ end → slice_range (take end block) at s ≡ slice_range block at s
range_in_part block at s end low high =
    ap (take (s - at)) (dropped_part block at end low) ∙ take-take (s - at) (end - at) (drop at block) (omega (arith, high))

module _ (how : PatternOptions) (texts : List (List ℕ)) (block : List ℕ) (at end : ℕ) (within : end ≤ length block)
    (ends : end < length block → IsLineStart block end)
  where
    before_end : (s len : ℕ) → s < end → position is_feed (drop s block) ≡ Some len → len < end - s
    before_end s len less found = elim (cases_lt end (length block)) [
      | inl short ↦
          let place : s + (end - 1 - s) ≡ end - 1 = omega (arith, less) in
          let feed : slice_get (drop s block) (end - 1 - s) ≡ Some 10 =
          get_dropped s block (end - 1 - s) ∙ ap (slice_get block) place ∙ ends short (omega (arith, less)) in
          let first = not_after (drop s block) len (end - 1 - s) found feed in
          omega (arith, first, less)
      | inr all ↦
          let few = first_within (drop s block) len found in
          omega (arith, few, length-drop s block, all, less)
    ]

    has_in_block : (s : ℕ) → s < end → HasMatchAt how texts (take end block) s → HasMatchAt how texts block s
    has_in_block s less has len found =
        let early = before_end s len less found in
        let part : drop s (take end block) ≡ take (end - s) (drop s block) = dropped_part block s end (omega (arith, less)) in
        subst (λ (t : List ℕ). IsMatchReported how texts (searched how.crlf (ended t)) true)
        (ap (take len) part ∙ take-take len (end - s) (drop s block) (omega (arith, early)))
        (has len (ap (position is_feed) part ∙ found_in_part (drop s block) (end - s) len found early))

    -- the line in the part
    pub next_in_part : (r : Reached) → at ≤ end → IsNextLine how texts (take end block) at r → r.start < end → IsNextLine how texts block at r
    next_in_part r low next less = record {
      from = next.from;
      within = omega (arith, less, within);
      starts = λ below above.
          sym (get_taken end block (r.start - 1) (omega (arith, less)))
          ∙ next.starts (omega (arith, less, length-take-le end block within)) above;
      passed = subst (HaveNoMatch how texts) (range_in_part block at r.start end low (omega (arith, less))) next.passed;
      has = λ is. has_in_block r.start less (next.has is);
    }

    -- or the line after it
    pub next_after_part : (r : Reached) → at ≤ end → IsNextLine how texts (take end block) at r → end ≤ r.start →
        IsNextLine how texts block at (record { start = r.start; has = false; passed = 0; gave_up = false })
    next_after_part r low next over =
        let high = next.within in
        let last : end ≡ r.start = omega (arith, over, high, length-take-le end block within) in
        record {
          from = next.from;
          within = omega (arith, last, within);
          starts = λ below. subst (IsLineStart block) last (ends (omega (arith, below, last)));
          passed = subst (HaveNoMatch how texts) (range_in_part block at r.start end low (omega (arith, last))) next.passed;
          has = λ is. absurd (true≢false (sym is));
        }
