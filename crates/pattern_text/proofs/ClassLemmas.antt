-- Ranges of a class, as ranges of bytes and of characters.
use Rattle.std.proofs.Common.{◌≡◌, ℕ, ◌+◌, ◌<◌, ◌≤◌, min, max, Bool, true, false, ◌&&◌, ◌||◌, nat_le, nat_lt, List, [], ◌∷◌, ◌++◌, length}
use Rattle.std.proofs.Common.{if◌then◌else◌, refl, sym, ap, ◌∙◌, arith, leb-true, ltb-true}
use Rattle.std.proofs.lemmas.Bool.{and_parts}
use Rattle.std.proofs.lemmas.Bool.Decides.{nat_tests}
use Rattle.std.specs.Char.{IsScalar}
use Rattle.regex_class.specs.Ranges.{in_range, in_ranges, rises_from, fits_from, range_at, IsCanonical}
use Rattle.regex_class.proofs.RangesLemmas.{or_assoc, rises_from-at, fits_from-true}
use Rattle.hir_core.specs.Facts as ours
use Rattle.hir_core.specs.Means.{is_member}
use Rattle.pattern_text.specs.Cut.{cut_to_bytes, below_surrogates, above_surrogates, without_surrogates}

fits : (n : ℕ) (r : ℕ × ℕ) (b : Bool) → (fits_from n r && b) ≡ true → (n ≤ r.0) × (r.0 ≤ r.1) × (r.1 ≤ 0x10_FFFF) × (b ≡ true)
fits n r b e =
    let both = and_parts (fits_from n r) b e in
    let p = fits_from-true n r both.0 in
    (p.0, p.1, p.2, both.1)

rises_step : (m : ℕ) (r : ℕ × ℕ) (b : Bool) → m ≤ r.0 → r.0 ≤ r.1 → b ≡ true → (nat_le m r.0 && nat_le r.0 r.1 && b) ≡ true
rises_step m r b p q e = grind (arith, nat_tests)

-- a range that is there or not, before others
ascend_if : (b : Bool) (m : ℕ) (x : ℕ × ℕ) (rest : List (ℕ × ℕ)) → (b ≡ true → (m ≤ x.0) × (x.0 ≤ x.1)) →
    (b ≡ true → ours.rises_from (x.1 + 1) rest ≡ true) → (b ≡ false → ours.rises_from m rest ≡ true) →
    ours.rises_from m ((if b then x ∷ [] else []) ++ rest) ≡ true
ascend_if true m x rest fit more skip = let p = fit refl in rises_step m x _ p.0 p.1 (more refl)
ascend_if false m x rest fit more skip = skip refl

pub bytes_ascend : (m n : ℕ) (rs : List (ℕ × ℕ)) → m ≤ n → rises_from n rs ≡ true → ours.rises_from m (cut_to_bytes rs) ≡ true
unfolding rises_from
bytes_ascend m n [] le e = refl
bytes_ascend m n (r ∷ rs) le e =
    let p = fits n r (rises_from (r.1 + 2) rs) e in
    ascend_if (nat_le r.0 (min r.1 0xFF)) m (r.0, min r.1 0xFF) (cut_to_bytes rs)
    (λ e. let low : r.0 ≤ min r.1 0xFF = leb-true r.0 (min r.1 0xFF) e in (omega (arith, p.0), omega (arith, low)))
    (λ e. bytes_ascend (min r.1 0xFF + 1) (r.1 + 2) rs (omega arith) p.3)
    (λ e. bytes_ascend m (r.1 + 2) rs (omega (arith, p.0, p.1)) p.3)

-- what is below and above the surrogates, before ranges that ascend from there
scalars_step : (m : ℕ) (r : ℕ × ℕ) (rest : List (ℕ × ℕ)) → m ≤ r.0 → r.0 ≤ r.1 →
    ((k : ℕ) → k ≤ r.1 + 2 → ours.rises_from k rest ≡ true) → ours.rises_from m (below_surrogates r ++ (above_surrogates r ++ rest)) ≡ true
scalars_step m r rest p q more =
    ascend_if (nat_lt r.0 0xD800) m (r.0, min r.1 0xD7FF) (above_surrogates r ++ rest)
    (λ e. let low : r.0 < 0xD800 = ltb-true r.0 0xD800 e in (p, omega arith))
    (λ e. ascend_if (nat_lt 0xDFFF r.1) (min r.1 0xD7FF + 1) (max r.0 0xE000, r.1) rest
    (λ f. let high : 0xDFFF < r.1 = ltb-true 0xDFFF r.1 f in (omega arith, omega arith))
    (λ f. more (r.1 + 1) (omega arith)) (λ f. more (min r.1 0xD7FF + 1) (omega arith)))
    (λ e. ascend_if (nat_lt 0xDFFF r.1) m (max r.0 0xE000, r.1) rest
    (λ f. let high : 0xDFFF < r.1 = ltb-true 0xDFFF r.1 f in (omega arith, omega arith))
    (λ f. more (r.1 + 1) (omega arith)) (λ f. more m (omega arith)))

pub scalars_ascend : (m n : ℕ) (rs : List (ℕ × ℕ)) → m ≤ n → rises_from n rs ≡ true → ours.rises_from m (without_surrogates rs) ≡ true
unfolding rises_from
scalars_ascend m n [] le e = refl
scalars_ascend m n (r ∷ rs) le e =
    let p = fits n r (rises_from (r.1 + 2) rs) e in
    scalars_step m r (without_surrogates rs) (omega (arith, p.0)) p.1 (λ k le. scalars_ascend k (r.1 + 2) rs le p.3)

-- a character is a member of what is left if and only if it was one
member_if : (b : Bool) (x : ℕ × ℕ) (rest : List (ℕ × ℕ)) (c : ℕ) →
    is_member ((if b then x ∷ [] else []) ++ rest) c ≡ ((b && (nat_le x.0 c && nat_le c x.1)) || is_member rest c)
member_if true x rest c = refl
member_if false x rest c = refl

byte_side : (a b c : ℕ) → c < 256 → (nat_le a (min b 0xFF) && (nat_le a c && nat_le c (min b 0xFF))) ≡ (nat_le a c && nat_le c b)
byte_side a b c byte = grind (arith, nat_tests)

-- and a byte is a member if and only if it was one
pub same_members : (rs : List (ℕ × ℕ)) (b : ℕ) → b < 256 → in_ranges rs b ≡ is_member (cut_to_bytes rs) b
unfolding in_ranges in_range
same_members [] b byte = refl
same_members (r ∷ rs) b byte = ap (λ v. (nat_le r.0 b && nat_le b r.1) || v) (same_members rs b byte)
    ∙ ap (λ v. v || is_member (cut_to_bytes rs) b) (sym (byte_side r.0 r.1 b byte))
    ∙ sym (member_if (nat_le r.0 (min r.1 0xFF)) (r.0, min r.1 0xFF) (cut_to_bytes rs) b)

either_side : (a b c : ℕ) → IsScalar c →
    ((nat_lt a 0xD800 && (nat_le a c && nat_le c (min b 0xD7FF))) || (nat_lt 0xDFFF b && (nat_le (max a 0xE000) c && nat_le c b)))
    ≡ (nat_le a c && nat_le c b)
either_side a b c scalar = grind (arith, nat_tests)

scalar_step : (r : ℕ × ℕ) (rest : List (ℕ × ℕ)) (c : ℕ) → IsScalar c →
    is_member (below_surrogates r ++ (above_surrogates r ++ rest)) c ≡ (in_range r c || is_member rest c)
unfolding in_range
scalar_step r rest c scalar =
    member_if (nat_lt r.0 0xD800) (r.0, min r.1 0xD7FF) (above_surrogates r ++ rest) c
    ∙ ap (λ m. (nat_lt r.0 0xD800 && (nat_le r.0 c && nat_le c (min r.1 0xD7FF))) || m)
    (member_if (nat_lt 0xDFFF r.1) (max r.0 0xE000, r.1) rest c)
    ∙ or_assoc _ _ (is_member rest c)
    ∙ ap (λ b. b || is_member rest c) (either_side r.0 r.1 c scalar)

pub same_scalars : (rs : List (ℕ × ℕ)) (c : ℕ) → IsScalar c → in_ranges rs c ≡ is_member (without_surrogates rs) c
unfolding in_ranges
same_scalars [] c scalar = refl
same_scalars (r ∷ rs) c scalar =
    ap (λ b. in_range r c || b) (same_scalars rs c scalar) ∙ sym (scalar_step r (without_surrogates rs) c scalar)

in_upper : (n : ℕ) → 0xE000 ≤ n → n ≤ 0x10_FFFF → IsScalar n
in_upper n p q = grind (arith, nat_tests)

-- what is above the surrogates is characters
pub scalars_above : (rs : List (ℕ × ℕ)) (k m : ℕ) → IsCanonical rs → k < length rs → 0xDFFF < (range_at rs k).1 →
    m ≡ max (range_at rs k).0 0xE000 → IsScalar m × IsScalar (range_at rs k).1
scalars_above rs k m rise lt high is =
    let p = rises_from-at 0 rs k rise lt in
    (in_upper m (omega (arith, is)) (omega (arith, is, p.1, p.2)), in_upper (range_at rs k).1 (omega arith) (omega (arith, p.2)))
