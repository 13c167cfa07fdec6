-- Bytes by three tables: the rows of their low halves, in one of two tables, and the bits of their high halves.
use Rattle.std.proofs.Common.{◌≡◌, ◌∙◌, ◌/◌, ◌%◌, ℕ, List, [], ◌∷◌, length, get_or, map, replicate, refl, ap, w8}
use Rattle.std.proofs.Common.{Bool, cond, not, eqb, ltb, bit_and}
use Rattle.std.proofs.lemmas.List.{length-map}
use Rattle.std.proofs.lemmas.Simd.{tops_compared, zip2_splat, zip2-map, map-map}
use Rattle.std.specs.Simd.Lanes.{sel_l, top, zip2}
use Rattle.lazy_dfa.specs.ByteTests.{has_bits, in_rows, marked, row_of}
use Rattle.lazy_dfa.specs.declared.accel.row_tables.TheConstants.{BITS}
use Rattle.lazy_dfa.proofs.PassedBytes.ByteTestLemmas.{compared, marked_compared}

-- one of two lanes, by a test of the byte
selected : (test : ℕ → Bool) (f g : ℕ → ℕ) (bytes : List ℕ) →
    sel_l (map test bytes) (map f bytes) (map g bytes) ≡ map (λ x. cond (test x) (f x) (g x)) bytes
selected test f g [] = refl
selected test f g (x ∷ bytes) = ap (λ rest. cond (test x) (f x) (g x) ∷ rest) (selected test f g bytes)

-- the row of each byte
rows_selected : (below above bytes r1 r2 : List ℕ) → length bytes ≡ 32 →
    r1 ≡ map (λ x. get_or below (x % 16) 0) bytes → r2 ≡ map (λ x. get_or above (x % 16) 0) bytes →
    sel_l (map (top 7) (zip2 (λ a b. cond (ltb a b) 255 0) bytes (replicate 32 128))) r1 r2 ≡ map (row_of below above) bytes
rows_selected below above bytes r1 r2 long e1 e2 =
    let tests = tops_compared w8 ltb bytes (replicate 32 128) ∙ zip2_splat ltb bytes 32 128 long in
    (λ j. sel_l (tests j) (e1 j) (e2 j))
    ∙ selected (λ x. ltb x 128) (λ x. get_or below (x % 16) 0) (λ x. get_or above (x % 16) 0) bytes

-- the bytes whose row has their bit
pub marked_rows : (below above bytes r1 r2 bits : List ℕ) → length bytes ≡ 32 →
    r1 ≡ map (λ x. get_or below (x % 16) 0) bytes → r2 ≡ map (λ x. get_or above (x % 16) 0) bytes →
    bits ≡ map (λ x. get_or BITS (x / 16) 0) bytes →
    compared (λ x y. not (eqb x y))
    (zip2 bit_and (sel_l (map (top 7) (zip2 (λ a b. cond (ltb a b) 255 0) bytes (replicate 32 128))) r1 r2) bits) 0
    ≡ marked (in_rows below above) bytes
marked_rows below above bytes r1 r2 bits long e1 e2 e3 =
    let common = λ (x : ℕ). bit_and (row_of below above x) (get_or BITS (x / 16) 0) in
    ap (λ lanes. compared (λ x y. not (eqb x y)) lanes 0)
    ((λ i. zip2 bit_and (rows_selected below above bytes r1 r2 long e1 e2 i) (e3 i))
    ∙ zip2-map bit_and (row_of below above) (λ x. get_or BITS (x / 16) 0) bytes)
    ∙ marked_compared (λ x y. not (eqb x y)) (map common bytes) 0 (length-map bytes common ∙ long)
    ∙ map-map (λ x. cond (has_bits x) 255 0) common bytes
