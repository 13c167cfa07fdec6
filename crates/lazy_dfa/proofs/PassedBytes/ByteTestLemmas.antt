-- Vectors as lists of their lanes. Each lane is the value of a function for the byte that was read.
use Rattle.std.proofs.Common.{◌≡◌, ◌||◌, ◌∙◌, ◌+◌, ◌-◌, ◌<◌, ◌≤◌, ℕ, zero, suc, List, [], ◌∷◌, length, get_or, map, replicate}
use Rattle.std.proofs.Common.{Bool, true, false, not, cond, leb, w8, w64, inl, inr, ⊎_elim, refl, sym, ap, subst, arith}
use Rattle.std.proofs.Common.{◌^◌, pow_mono, bit_or}
use Rattle.std.proofs.lemmas.Bool.{cases_lt}
use Rattle.std.proofs.lemmas.List.{get_or_past, length-map}
use Rattle.std.proofs.lemmas.Nat.Bits.{bit_at-trailing_zeros}
use Rattle.std.proofs.lemmas.Simd.{tops_compared, zip2_splat, length-zip2, map-map, length-chunk, trailing_mask_l, mask_l-lt, bit_mask_l}
use Rattle.std.proofs.lemmas.Simd.{run_in_chunk_le, run_in_chunk_stops, run_in_chunk_fails, none_from_empty_mask}
use Rattle.std.specs.Int.Count.{count_trailing_zeros}
use Rattle.std.specs.List.{prefix_len}
use Rattle.std.specs.Simd.Lanes.{chunk, mask_l, sel_l, top, zip2}
use Rattle.lazy_dfa.specs.ByteTests.{has_bits, marked, wrapped, NoneSatisfies}

-- all bits if a flag is set, and none otherwise
all_or_none : (test : ℕ → Bool) (bytes : List ℕ) (n : ℕ) → length bytes ≡ n →
    sel_l (map test bytes) (replicate n 255) (replicate n 0) ≡ marked test bytes
all_or_none test [] n e = refl
all_or_none test (x ∷ bytes) zero e = absurd (omega arith)
all_or_none test (x ∷ bytes) (suc n) e = ap (λ rest. cond (test x) 255 0 ∷ rest) (all_or_none test bytes n (omega arith))

-- lanes like these, made by a comparison with one byte
abbrev pub compared : (ℕ → ℕ → Bool) → List ℕ → ℕ → List ℕ
compared compare lanes y =
    sel_l (map (top 7) (zip2 (λ a b. cond (compare a b) 255 0) lanes (replicate 32 y))) (replicate 32 255) (replicate 32 0)

pub marked_compared : (compare : ℕ → ℕ → Bool) (lanes : List ℕ) (y : ℕ) → length lanes ≡ 32 →
    compared compare lanes y ≡ marked (λ x. compare x y) lanes
marked_compared compare lanes y long =
    ap (λ ms. sel_l ms (replicate 32 255) (replicate 32 0))
    (tops_compared w8 compare lanes (replicate 32 y) ∙ zip2_splat compare lanes 32 y long)
    ∙ all_or_none (λ x. compare x y) lanes 32 long

-- how far each byte lies above the first one of a range, and whether it is within the range
abbrev far_above : ℕ → ℕ → ℕ
far_above x first = wrapped (x + (256 - first))

pub marked_range : (bytes : List ℕ) (first behind : ℕ) → length bytes ≡ 32 →
    compared leb (zip2 far_above bytes (replicate 32 first)) behind ≡ marked (λ x. leb (far_above x first) behind) bytes
marked_range bytes first behind long =
    let above = λ (x : ℕ). far_above x first in
    ap (λ lanes. compared leb lanes behind) (zip2_splat far_above bytes 32 first long)
    ∙ marked_compared leb (map above bytes) behind (length-map bytes above ∙ long)
    ∙ map-map (λ x. cond (leb x behind) 255 0) above bytes

-- the lanes of two tests, combined
either_bits : (a b : Bool) → bit_or (cond a 255 0) (cond b 255 0) ≡ cond (a || b) 255 0
either_bits true true = refl
either_bits true false = refl
either_bits false true = refl
either_bits false false = refl

pub marked_either : (p q : ℕ → Bool) (bytes : List ℕ) →
    zip2 bit_or (marked p bytes) (marked q bytes) ≡ marked (λ x. p x || q x) bytes
marked_either p q [] = refl
marked_either p q (x ∷ bytes) = λ i. either_bits (p x) (q x) i ∷ marked_either p q bytes i

-- of two lanes whose bits are all set or all clear, whether either has a set bit
abbrev flags : List Bool → List ℕ
flags bs = map (λ b. cond b 255 0) bs

abbrev both : List Bool → List Bool → List Bool
both ks bs = zip2 (λ a b. a || b) ks bs

flags_marked : (test : ℕ → Bool) (bytes : List ℕ) → marked test bytes ≡ flags (map test bytes)
flags_marked test [] = refl
flags_marked test (x ∷ bytes) = λ i. cond (test x) 255 0 ∷ flags_marked test bytes i

flags_both : (ks bs : List Bool) → zip2 bit_or (flags ks) (flags bs) ≡ flags (both ks bs)
flags_both [] bs = refl
flags_both (a ∷ ks) [] = refl
flags_both (a ∷ ks) (b ∷ bs) = λ i. either_bits a b i ∷ flags_both ks bs i

-- a lane has set bits if its byte passes the test
has_marked : (b : Bool) → has_bits (cond b 255 0) ≡ b
has_marked true = refl
has_marked false = refl

bits_marked : (test : ℕ → Bool) (bytes : List ℕ) → map has_bits (marked test bytes) ≡ map test bytes
bits_marked test [] = refl
bits_marked test (x ∷ bytes) = λ i. has_marked (test x) i ∷ bits_marked test bytes i

bits_flags : (bs : List Bool) → map has_bits (flags bs) ≡ bs
bits_flags [] = refl
bits_flags (b ∷ bs) = λ i. has_marked b i ∷ bits_flags bs i

-- if the combined lanes have no set bit, neither of the two has one
none_of_both : (ks bs : List Bool) → length ks ≡ length bs → mask_l (both ks bs) ≡ 0 → (mask_l ks ≡ 0) × (mask_l bs ≡ 0)
none_of_both [] [] long none = (refl, refl)
none_of_both [] (b ∷ bs) long none = absurd (omega arith)
none_of_both (a ∷ ks) [] long none = absurd (omega arith)
none_of_both (true ∷ ks) (b ∷ bs) long none = absurd (omega arith)
none_of_both (false ∷ ks) (true ∷ bs) long none = absurd (omega arith)
none_of_both (false ∷ ks) (false ∷ bs) long none =
    let rest = none_of_both ks bs (omega (arith, long)) (omega (arith, none)) in (omega (arith, rest.0), omega (arith, rest.1))

-- the lowest set bit is that of one of the lanes
lowest_lane : (ms : List Bool) → length ms ≤ 32 → 0 < mask_l ms → count_trailing_zeros 64 (mask_l ms) < length ms
lowest_lane ms few some =
    let n = count_trailing_zeros 64 (mask_l ms) in
    let fits : mask_l ms < 2 ^ 64 = omega (arith, mask_l-lt ms, pow_mono few) in
    let set = (bit_at-trailing_zeros w64 (mask_l ms) some fits).1 in
    elim (cases_lt n (length ms)) [
      | inl within ↦ within
      | inr past ↦ absurd (omega (arith, sym set ∙ bit_mask_l ms n ∙ ap (λ (b : Bool). cond {A = ℕ} b 1 0) (get_or_past ms n false past)))
    ]

pub joined : (test : ℕ → Bool) (h : List ℕ) (from at to : ℕ) → NoneSatisfies test h from at → NoneSatisfies test h at to →
    NoneSatisfies test h from to
joined test h from at to before behind k low high = ⊎_elim (λ l. before k low l) (λ l. behind k l high) (cases_lt k at)

-- what the 32 bytes from an offset on show, by one bit for each lane
module _ (test : ℕ → Bool) (h : List ℕ) (from at : ℕ) (lanes : List ℕ) (bits : ℕ)
    (room : at + 32 ≤ length h) (tested : lanes ≡ marked test (chunk at 32 h)) (reported : bits ≡ mask_l (map has_bits lanes)) where
  bits_tell : bits ≡ mask_l (map test (chunk at 32 h))
  bits_tell = reported ∙ ap (λ ls. mask_l (map has_bits ls)) tested ∙ ap mask_l (bits_marked test (chunk at 32 h))

  counted : 0 < bits → count_trailing_zeros 64 bits ≡ prefix_len (λ x. not (test x)) (chunk at 32 h)
  counted some =
      subst (λ n. count_trailing_zeros 64 n ≡ prefix_len (λ x. not (test x)) (chunk at 32 h)) (sym bits_tell)
      (trailing_mask_l test 64 (chunk at 32 h) (omega (arith, length-chunk at 32 h room)) (subst (λ n. 0 < n) bits_tell some))

  -- the lowest set bit is that of the first byte that passes the test
  pub found_within : 0 < bits → count_trailing_zeros 64 bits ≤ 32
  found_within some = run_in_chunk_le test h at 32 (count_trailing_zeros 64 bits) 0 room (counted some)

  pub found_passes_over : 0 < bits → NoneSatisfies test h from at → NoneSatisfies test h from (at + count_trailing_zeros 64 bits)
  found_passes_over some before =
      joined test h from at (at + count_trailing_zeros 64 bits) before
      (run_in_chunk_fails test h at 32 (count_trailing_zeros 64 bits) 0 room (counted some))

  found_in_lanes : 0 < bits → count_trailing_zeros 64 bits < 32
  found_in_lanes some =
      let ms = map test (chunk at 32 h) in
      let long = length-map (chunk at 32 h) test in
      let whole = length-chunk at 32 h room in
      let lane = lowest_lane ms (omega arith) (subst (λ n. 0 < n) bits_tell some) in
      omega (arith, subst (λ n. count_trailing_zeros 64 n < length ms) (sym bits_tell) lane)

  pub found_passes : 0 < bits → test (get_or h (at + count_trailing_zeros 64 bits) 0) ≡ true
  found_passes some = run_in_chunk_stops test h at 32 (count_trailing_zeros 64 bits) 0 room (counted some) (found_in_lanes some)

  -- if no bit is set, all 32 bytes are skipped
  pub none_passes_over : bits ≡ 0 → NoneSatisfies test h from at → NoneSatisfies test h from (at + 32)
  none_passes_over none before =
      joined test h from at (at + 32) before (none_from_empty_mask test h at 32 0 room (sym bits_tell ∙ none))

-- what four times 32 bytes from an offset on show, if the lanes of all four are combined
module _ (test : ℕ → Bool) (h : List ℕ) (at : ℕ) (room : at + 128 ≤ length h) where
  abbrev tests_at : ℕ → List Bool
  tests_at k = map test (chunk k 32 h)

  long_at : (k : ℕ) → k + 32 ≤ length h → length (tests_at k) ≡ 32
  long_at k fits = length-map (chunk k 32 h) test ∙ length-chunk k 32 h fits

  none_at : (k : ℕ) → k + 32 ≤ length h → mask_l (tests_at k) ≡ 0 → NoneSatisfies test h k (k + 32)
  none_at k fits none = none_from_empty_mask test h k 32 0 fits none

  both_long : (j k : ℕ) → j + 32 ≤ length h → k + 32 ≤ length h → length (both (tests_at j) (tests_at k)) ≡ 32
  both_long j k low high =
      length-zip2 (λ a b. a || b) (tests_at j) (tests_at k) (long_at j low ∙ sym (long_at k high)) ∙ long_at j low

  taken_together : (m0 m1 m2 m3 : List ℕ) → m0 ≡ marked test (chunk at 32 h) → m1 ≡ marked test (chunk (at + 32) 32 h) →
      m2 ≡ marked test (chunk (at + 64) 32 h) → m3 ≡ marked test (chunk (at + 96) 32 h) →
      map has_bits (zip2 bit_or (zip2 bit_or m0 m1) (zip2 bit_or m2 m3))
      ≡ both (both (tests_at at) (tests_at (at + 32))) (both (tests_at (at + 64)) (tests_at (at + 96)))
  taken_together m0 m1 m2 m3 e0 e1 e2 e3 =
      let f0 = e0 ∙ flags_marked test (chunk at 32 h) in
      let f1 = e1 ∙ flags_marked test (chunk (at + 32) 32 h) in
      let f2 = e2 ∙ flags_marked test (chunk (at + 64) 32 h) in
      let f3 = e3 ∙ flags_marked test (chunk (at + 96) 32 h) in
      let low : zip2 bit_or m0 m1 ≡ flags (both (tests_at at) (tests_at (at + 32))) =
      (λ i. zip2 bit_or (f0 i) (f1 i)) ∙ flags_both (tests_at at) (tests_at (at + 32)) in
      let high : zip2 bit_or m2 m3 ≡ flags (both (tests_at (at + 64)) (tests_at (at + 96))) =
      (λ i. zip2 bit_or (f2 i) (f3 i)) ∙ flags_both (tests_at (at + 64)) (tests_at (at + 96)) in
      (λ i. map has_bits (zip2 bit_or (low i) (high i)))
      ∙ ap (map has_bits) (flags_both (both (tests_at at) (tests_at (at + 32))) (both (tests_at (at + 64)) (tests_at (at + 96))))
      ∙ bits_flags (both (both (tests_at at) (tests_at (at + 32))) (both (tests_at (at + 64)) (tests_at (at + 96))))

  pub none_in_four : (m0 m1 m2 m3 : List ℕ) → m0 ≡ marked test (chunk at 32 h) → m1 ≡ marked test (chunk (at + 32) 32 h) →
      m2 ≡ marked test (chunk (at + 64) 32 h) → m3 ≡ marked test (chunk (at + 96) 32 h) →
      mask_l (map has_bits (zip2 bit_or (zip2 bit_or m0 m1) (zip2 bit_or m2 m3))) ≡ 0 → NoneSatisfies test h at (at + 128)
  none_in_four m0 m1 m2 m3 e0 e1 e2 e3 none =
      let r0 : at + 32 ≤ length h = omega (arith, room) in
      let r1 : (at + 32) + 32 ≤ length h = omega (arith, room) in
      let r2 : (at + 64) + 32 ≤ length h = omega (arith, room) in
      let r3 : (at + 96) + 32 ≤ length h = omega (arith, room) in
      let whole = sym (ap mask_l (taken_together m0 m1 m2 m3 e0 e1 e2 e3)) ∙ none in
      let parts = none_of_both (both (tests_at at) (tests_at (at + 32))) (both (tests_at (at + 64)) (tests_at (at + 96)))
      (both_long at (at + 32) r0 r1 ∙ sym (both_long (at + 64) (at + 96) r2 r3)) whole in
      let low = none_of_both (tests_at at) (tests_at (at + 32)) (long_at at r0 ∙ sym (long_at (at + 32) r1)) parts.0 in
      let high = none_of_both (tests_at (at + 64)) (tests_at (at + 96)) (long_at (at + 64) r2 ∙ sym (long_at (at + 96) r3)) parts.1 in
      let n1 = joined test h at (at + 32) (at + 64) (none_at at r0 low.0)
      (subst (λ n. NoneSatisfies test h (at + 32) n) (omega arith) (none_at (at + 32) r1 low.1)) in
      let n2 = joined test h at (at + 64) (at + 96) n1
      (subst (λ n. NoneSatisfies test h (at + 64) n) (omega arith) (none_at (at + 64) r2 high.0)) in
      joined test h at (at + 96) (at + 128) n2
      (subst (λ n. NoneSatisfies test h (at + 96) n) (omega arith) (none_at (at + 96) r3 high.1))
