-- Where two adjacent bytes pass their tests, by lanes, and where a search is after offsets at which none do.
use Rattle.std.proofs.Common.{◌≡◌, ◌∙◌, ◌+◌, ◌-◌, ◌<◌, ◌≤◌, ◌&&◌, ℕ, zero, suc, List, length, get_or, map, Bool, true, false, not, cond}
use Rattle.std.proofs.Common.{Option, Some}
use Rattle.std.proofs.Common.{bit_and, ⊎_elim, inl, inr, refl, sym, ap, subst, arith, true≢false}
use Rattle.std.proofs.lemmas.Bool.{cases_Bool, cases_lt, not-true}
use Rattle.std.proofs.lemmas.List.{get_or-map, length-map}
use Rattle.std.proofs.lemmas.List.Sums.{prefix_len-le-length, prefix_len_passes}
use Rattle.std.proofs.lemmas.Simd.{get_or-chunk, get_or-zip2, length-chunk, length-zip2, leading_from_mask_l, trailing_mask_l}
use Rattle.std.specs.Int.Count.{count_trailing_zeros}
use Rattle.std.specs.List.{prefix_len}
use Rattle.std.specs.Simd.Lanes.{chunk, mask_l, zip2}
use Rattle.lazy_dfa.specs.ByteTests.{has_bits, marked, NoPairs}
use Rattle.lazy_dfa.specs.Caches.{CacheValue, IsCacheOf, IsRow}
use Rattle.lazy_dfa.specs.Dfas.{Dfa, IsDfa, class_of}
use Rattle.lazy_dfa.specs.Ids.{tag}
use Rattle.lazy_dfa.specs.Points.{GoesTo, point}
use Rattle.lazy_dfa.specs.Skips.{cell_by, AreSkipped}
use Rattle.lazy_dfa.proofs.CacheChanges.LinkedLemmas.{AreBytes}
use Rattle.lazy_dfa.proofs.PassedBytes.SkipLemmas.{row_next, stands, way_next}

-- ---- lanes

pub pairs_joined : (p q : ℕ → Bool) (h : List ℕ) (from at to : ℕ) → NoPairs p q h from at → NoPairs p q h at to → NoPairs p q h from to
pairs_joined p q h from at to before behind k low high = ⊎_elim (λ l. before k low l) (λ l. behind k l high) (cases_lt k at)

both_bits : (a b : Bool) → has_bits (bit_and (cond a 255 0) (cond b 255 0)) ≡ a && b
both_bits true true = refl
both_bits true false = refl
both_bits false true = refl
both_bits false false = refl

-- what the 32 offsets from one on show, by one bit for each lane
module _ (p q : ℕ → Bool) (h : List ℕ) (at : ℕ) (room : at + 33 ≤ length h) where
  abbrev first : List ℕ
  first = marked p (chunk at 32 h)

  abbrev second : List ℕ
  second = marked q (chunk (at + 1) 32 h)

  abbrev lanes : List ℕ
  lanes = zip2 bit_and first second

  long_first : length first ≡ 32
  long_first = length-map (chunk at 32 h) (λ x. cond (p x) 255 0) ∙ length-chunk at 32 h (omega (arith, room))

  long_second : length second ≡ 32
  long_second = length-map (chunk (at + 1) 32 h) (λ x. cond (q x) 255 0) ∙ length-chunk (at + 1) 32 h (omega (arith, room))

  long_lanes : length lanes ≡ 32
  long_lanes = length-zip2 bit_and first second (long_first ∙ sym long_second) ∙ long_first

  mark_at : (test : ℕ → Bool) (k j i : ℕ) → k + 32 ≤ length h → j < 32 → k + j ≡ i →
      get_or (marked test (chunk k 32 h)) j 0 ≡ cond (test (get_or h i 0)) 255 0
  mark_at test k j i fits l e =
      get_or-map (λ x. cond (test x) 255 0) (chunk k 32 h) j 0 0 (omega (arith, l, length-chunk k 32 h fits))
      ∙ ap (λ x. cond {A = ℕ} (test x) 255 0) (get_or-chunk k 32 h j 0 l ∙ ap (λ m. get_or h m 0) e)

  lane_at : (j i : ℕ) → j < 32 → at + j ≡ i → has_bits (get_or lanes j 0) ≡ p (get_or h i 0) && q (get_or h (i + 1) 0)
  lane_at j i l e =
      let m1 = mark_at p at j i (omega (arith, room)) l e in
      let m2 = mark_at q (at + 1) j (i + 1) (omega (arith, room)) l (omega (arith, e)) in
      let z = get_or-zip2 bit_and first second j 0 0 0 (omega (arith, long_first, l)) (omega (arith, long_second, l)) in
      ap has_bits (z ∙ (λ k. bit_and (m1 k) (m2 k))) ∙ both_bits (p (get_or h i 0)) (q (get_or h (i + 1) 0))

  module _ (n : ℕ) (counted : n ≡ prefix_len (λ x. not (has_bits x)) lanes) where
    within : n ≤ 32
    within = omega (arith, counted, long_lanes, prefix_len-le-length (λ x. not (has_bits x)) lanes)

    none_before : NoPairs p q h at (at + n)
    none_before k low high =
        let j = k - at in
        let l : j < n = omega (arith, low, high) in
        let small = within in
        sym (lane_at j k (omega (arith, l, small)) (omega (arith, low)))
        ∙ not-true _ (prefix_len_passes (λ x. not (has_bits x)) lanes j 0 (omega (arith, counted, l)))

  module _ (bits : ℕ) (reported : bits ≡ mask_l (map has_bits lanes)) where
    counted_bits : 0 < bits → count_trailing_zeros 64 bits ≡ prefix_len (λ x. not (has_bits x)) lanes
    counted_bits some =
        subst (λ n. count_trailing_zeros 64 n ≡ prefix_len (λ x. not (has_bits x)) lanes) (sym reported)
        (trailing_mask_l has_bits 64 lanes (omega (arith, long_lanes)) (subst (λ n. 0 < n) reported some))

    pub pair_within : 0 < bits → count_trailing_zeros 64 bits ≤ 32
    pair_within some = within (count_trailing_zeros 64 bits) (counted_bits some)

    pub none_before_pair : (from : ℕ) → 0 < bits → NoPairs p q h from at → NoPairs p q h from (at + count_trailing_zeros 64 bits)
    none_before_pair from some before =
        pairs_joined p q h from at (at + count_trailing_zeros 64 bits) before
        (none_before (count_trailing_zeros 64 bits) (counted_bits some))

    pub no_pair_in_lanes : (from : ℕ) → bits ≡ 0 → NoPairs p q h from at → NoPairs p q h from (at + 32)
    no_pair_in_lanes from none before =
        pairs_joined p q h from at (at + 32) before
        (none_before 32 (sym (leading_from_mask_l has_bits lanes (sym reported ∙ none) ∙ long_lanes)))

-- ---- where a search is

module _ (d : Dfa) (v : CacheValue) (h : List ℕ) (made : IsDfa d) (own : IsCacheOf d v) (bytes : AreBytes h)
    (up : d.nfa.automaton.reverse ≡ false) (id : ℕ) (row : IsRow v id) (low : id < tag) (p q : ℕ → Bool)
    (are_skipped : AreSkipped v.cells v.classes id p q) (from to : ℕ) (inside : to ≤ length h) (none : NoPairs p q h from to) where
  abbrev byte_at : ℕ → ℕ
  byte_at k = get_or h k 0

  abbrev Way : ℕ → ℕ → Type 0
  Way k next = (m n : ℕ) (best : Option (ℕ × ℕ)) →
      GoesTo d h (point v m n from id best) (point v m n (from + k) next best) (from + k - from)

  -- the byte before a byte that passes doesn't pass
  fails_before : (k : ℕ) → from + k + 1 < to → p (byte_at (from + k + 1)) ≡ true → p (byte_at (from + k)) ≡ false
  fails_before k within passes = elim (cases_Bool (p (byte_at (from + k)))) [
    | inl hit ↦
        let fails : q (byte_at (from + k + 1)) ≡ false =
        subst (λ (b : Bool). b && q (byte_at (from + k + 1)) ≡ false) hit (none (from + k) (omega arith) (omega (arith, within))) in
        absurd (true≢false (sym passes ∙ are_skipped.quiet (byte_at (from + k)) (byte_at (from + k + 1)) (bytes (from + k)) (
        bytes (from + k + 1)
        ) hit fails))
    | inr miss ↦ miss
  ]

  -- if there is a byte before an offset, it fails the test
  abbrev IsQuiet : ℕ → Type 0
  IsQuiet k = 0 < k → p (byte_at (from + k - 1)) ≡ false

  quiet_before : (k : ℕ) → from + k < to → p (byte_at (from + k)) ≡ true → IsQuiet k
  quiet_before zero within passes = λ l. absurd (omega (arith, l))
  quiet_before (suc k) within passes = λ _.
      let e : from + suc k ≡ from + k + 1 = omega arith in
      let f : from + k ≡ from + suc k - 1 = omega arith in
      subst (λ j. p (byte_at j) ≡ false) f (fails_before k (omega (arith, within)) (subst (λ j. p (byte_at j) ≡ true) e passes))

  read : (k from_id next : ℕ) → cell_by v.cells v.classes from_id (byte_at k) ≡ next →
      next ≡ get_or v.cells (from_id + class_of d.classes (Some (byte_at k))) 0
  read k from_id next e =
      sym (subst (λ (cs : List ℕ). get_or v.cells (from_id + class_of cs (Some (byte_at k))) 0 ≡ next) own.classes e)

  stays_one : (k : ℕ) → from + k < to → p (byte_at (from + k)) ≡ false → Way k id → Way (k + 1) id
  stays_one k within fails so_far = way_next d v h made own bytes up from id k id row row low (omega (arith, within, inside)) so_far
      id (class_of d.classes (Some (byte_at (from + k)))) refl
      (read (from + k) id id (are_skipped.stays (byte_at (from + k)) (bytes (from + k)) fails)) low

  back_again : (k : ℕ) → from + k + 1 < to → p (byte_at (from + k)) ≡ true → Way k id → Way (k + 1 + 1) id
  back_again k within passes so_far =
      let fails : q (byte_at (from + k + 1)) ≡ false =
      subst (λ (b : Bool). b && q (byte_at (from + k + 1)) ≡ false) passes (none (from + k) (omega arith) (omega (arith, within))) in
      let one = byte_at (from + k) in
      let two = byte_at (from + k + 1) in
      let next = cell_by v.cells v.classes id one in
      let plain = are_skipped.plain one two (bytes (from + k)) (bytes (from + k + 1)) passes fails in
      let back = are_skipped.back one two (bytes (from + k)) (bytes (from + k + 1)) passes fails in
      let e : from + k + 1 ≡ from + (k + 1) = omega arith in
      let inner : from + k < length h = omega (arith, within, inside) in
      let once = way_next d v h made own bytes up from id k id row row low inner so_far
      next (class_of d.classes (Some one)) refl (read (from + k) id next refl) plain in
      let there = row_next d v h made own bytes up from id k id row row low inner so_far
      next (class_of d.classes (Some one)) refl (read (from + k) id next refl) plain in
      way_next d v h made own bytes up from id (k + 1) next row there plain (omega (arith, within, inside)) once
      id (class_of d.classes (Some (byte_at (from + (k + 1))))) refl
      (read (from + (k + 1)) next id (subst (λ j. cell_by v.cells v.classes next (byte_at j) ≡ id) e back)) low

  -- after any number of bytes the last of which fails, the search is in the state in which it was before
  way_far : (k : ℕ) → from + k ≤ to → IsQuiet k → Way k id
  way_far zero within quiet = stands d v h own from id row
  way_far (suc zero) within quiet =
      let e : 0 + 1 ≡ suc zero = omega arith in
      let f : from + suc zero - 1 ≡ from + zero = omega arith in
      let fails = subst (λ j. p (byte_at j) ≡ false) f (quiet (omega arith)) in
      subst (λ j. Way j id) e (stays_one zero (omega (arith, within)) fails
      (way_far zero (omega (arith, within)) (λ l. absurd (omega (arith, l)))))
  way_far (suc (suc k)) within quiet =
      let e : suc k + 1 ≡ suc (suc k) = omega arith in
      let f : k + 1 + 1 ≡ suc (suc k) = omega arith in
      let g : from + suc (suc k) - 1 ≡ from + suc k = omega arith in
      let i : from + k ≡ from + suc k - 1 = omega arith in
      let fails = subst (λ j. p (byte_at j) ≡ false) g (quiet (omega arith)) in
      elim (cases_Bool (p (byte_at (from + k)))) [
        | inl hit ↦ subst (λ j. Way j id) f (
            back_again k (omega (arith, within)) hit
            (way_far k (omega (arith, within)) (quiet_before k (omega (arith, within)) hit))
            )
        | inr miss ↦ subst (λ j. Way j id) e (
            stays_one (suc k) (omega (arith, within)) fails
            (way_far (suc k) (omega (arith, within)) (λ _. subst (λ j. p (byte_at j) ≡ false) i miss))
            )
      ]

  -- the search is in that state at an offset before a byte that passes, and at one after a byte that fails
  module _ (at : ℕ) (past : from ≤ at) (near : at ≤ to) where
    way_there : IsQuiet (at - from) → (m n : ℕ) (best : Option (ℕ × ℕ)) → GoesTo d h (point v m n from id best) (point v m n at id best)
        (at - from)
    way_there quiet =
        let e : from + (at - from) ≡ at = omega (arith, past) in
        subst (λ j. (m n : ℕ) (best : Option (ℕ × ℕ)) → GoesTo d h (point v m n from id best) (point v m n j id best) (j - from)) e
        (way_far (at - from) (omega (arith, e, near)) quiet)

    pub way_before : at < to → p (byte_at at) ≡ true → (m n : ℕ) (best : Option (ℕ × ℕ)) →
        GoesTo d h (point v m n from id best) (point v m n at id best) (at - from)
    way_before further passes =
        let e : at ≡ from + (at - from) = omega (arith, past) in
        way_there (quiet_before (at - from) (omega (arith, e, further)) (subst (λ j. p (byte_at j) ≡ true) e passes))

    pub way_past : (from < at → p (byte_at (at - 1)) ≡ false) → (m n : ℕ) (best : Option (ℕ × ℕ)) →
        GoesTo d h (point v m n from id best) (point v m n at id best) (at - from)
    way_past fails =
        let f : at - 1 ≡ from + (at - from) - 1 = omega (arith, past) in
        way_there (λ l. subst (λ j. p (byte_at j) ≡ false) f (fails (omega (arith, l))))
