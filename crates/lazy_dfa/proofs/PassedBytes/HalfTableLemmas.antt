-- Sixteen items, which a vector holds twice, looked up by one half of each byte.
use Rattle.std.proofs.Common.{◌≡◌, ◌∙◌, ◌+◌, ◌*◌, ◌/◌, ◌%◌, ◌^◌, ◌<◌, ℕ, List, length, get_or, map, replicate, refl, sym, ap, arith}
use Rattle.std.proofs.Common.{cond, not, eqb, bit_and, w8, Fits}
use Rattle.std.proofs.lemmas.List.{ext_get_or, get_or-map, length-map}
use Rattle.std.proofs.lemmas.Nat.{and_mask}
use Rattle.std.proofs.lemmas.Simd.{zip2-map, zip2_splat, map-map, length-swz_l, get_or-swz_l_below, swz_l, SwzOk, SwzOk-from_below}
use Rattle.std.proofs.lemmas.Simd.{Each1-from_get_or, Each1-get_or}
use Rattle.std.specs.Simd.Lanes.{zip2, Each1}
use Rattle.lazy_dfa.specs.ByteTests.{has_bits, in_halves, marked, IsTwice}
use Rattle.lazy_dfa.proofs.PassedBytes.ByteTestLemmas.{compared, marked_compared}

-- both halves of bytes, as the vector operations make them
pub low_halves : (bytes : List ℕ) → length bytes ≡ 32 → zip2 bit_and bytes (replicate 32 15) ≡ map (λ x. x % 16) bytes
low_halves bytes long = zip2_splat bit_and bytes 32 15 long ∙ ap (λ (f : ℕ → ℕ). map f bytes) (λ i x. and_mask x 4 i)

pub high_halves : (bytes : List ℕ) → length bytes ≡ 32 → zip2 (λ a b. a / 2 ^ b) bytes (replicate 32 4) ≡ map (λ x. x / 16) bytes
high_halves bytes long = zip2_splat (λ a b. a / 2 ^ b) bytes 32 4 long

pub low_below : (bytes : List ℕ) (k : ℕ) → k < 32 → get_or bytes k 0 % 16 < 16
low_below bytes k l = omega arith

pub high_below : (bytes : List ℕ) → length bytes ≡ 32 → Each1 (Fits w8) bytes → (k : ℕ) → k < 32 → get_or bytes k 0 / 16 < 16
high_below bytes long fits k l = omega (arith, (Each1-get_or (Fits w8) bytes k 0 (omega arith) fits).fits)

module _ (half : ℕ → ℕ) (bytes : List ℕ) (long : length bytes ≡ 32) (below : (k : ℕ) → k < 32 → half (get_or bytes k 0) < 16)
    (halves : List ℕ) (made : halves ≡ map half bytes) where
  length_halves : length halves ≡ 32
  length_halves = ap length made ∙ length-map bytes half ∙ long

  half_at : (k : ℕ) → k < 32 → get_or halves k 0 ≡ half (get_or bytes k 0)
  half_at k l = ap (λ hs. get_or hs k 0) made ∙ get_or-map half bytes k 0 0 (omega arith)

  pub may_look_up : SwzOk w8 16 32 0 halves
  may_look_up =
      let many = length_halves in
      SwzOk-from_below w8 16 2 32 0 halves refl (omega arith)
      (Each1-from_get_or (λ j. j < 16) halves 0 (λ k l. omega (arith, half_at k (omega arith), below k (omega arith))))

  pub looked_up : (table wide : List ℕ) → IsTwice table wide → swz_l w8 16 wide 0 halves ≡ map (λ x. get_or table (half x) 0) bytes
  looked_up table wide twice =
      let many : length (swz_l w8 16 wide 0 halves) ≡ 32 = length-swz_l w8 16 wide 0 halves ∙ length_halves in
      ext_get_or 0 (swz_l w8 16 wide 0 halves) (map (λ x. get_or table (half x) 0) bytes)
      (many ∙ sym (length-map bytes (λ x. get_or table (half x) 0) ∙ long))
      (λ k within.
      let l : k < 32 = omega arith in
      let e = half_at k l in
      let small = below k l in
      let long_halves = length_halves in
      get_or-swz_l_below w8 16 wide 0 halves k (omega arith) (omega arith)
      ∙ twice.each (16 * ((0 + k) / 16) + get_or halves k 0) (omega arith)
      ∙ ap (λ j. get_or table j 0) (omega arith)
      ∙ sym (get_or-map (λ x. get_or table (half x) 0) bytes k 0 0 (omega arith)))

-- the bytes whose two marks have a bit in common
pub marked_halves : (low high bytes lows highs : List ℕ) → length bytes ≡ 32 →
    lows ≡ map (λ x. get_or low (x % 16) 0) bytes → highs ≡ map (λ x. get_or high (x / 16) 0) bytes →
    compared (λ x y. not (eqb x y)) (zip2 bit_and lows highs) 0 ≡ marked (in_halves low high) bytes
marked_halves low high bytes lows highs long at_low at_high =
    let common = λ (x : ℕ). bit_and (get_or low (x % 16) 0) (get_or high (x / 16) 0) in
    ap (λ lanes. compared (λ x y. not (eqb x y)) lanes 0)
    ((λ i. zip2 bit_and (at_low i) (at_high i)) ∙ zip2-map bit_and (λ x. get_or low (x % 16) 0) (λ x. get_or high (x / 16) 0) bytes)
    ∙ marked_compared (λ x y. not (eqb x y)) (map common bytes) 0 (length-map bytes common ∙ long)
    ∙ map-map (λ x. cond (has_bits x) 255 0) common bytes
