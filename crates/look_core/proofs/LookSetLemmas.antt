-- The members of a set by its bits, and the bits by the members.
use Rattle.std.proofs.Common.{◌≡◌, ℕ, zero, suc, ◌-◌, ◌<◌, ◌^◌, ◌==◌, ◌&&◌, ◌||◌, not, Bool, true, false, cond, List, [], ◌∷◌, length, map}
use Rattle.std.proofs.Common.{get_or, Option, Some, refl, sym, ap, ◌∙◌, subst, arith}
use Rattle.std.specs.List.{filter, list_any}
use Rattle.std.specs.Int.{bit_at, bit_not, w32, trailing_zeros}
use Rattle.std.specs.Int.Bits.{bit_and}
use Rattle.std.proofs.Math.Bool.{and-true, and_comm}
use Rattle.std.proofs.Common.{⊎_elim, count_ones, min, max, ◌↔◌, ◌*◌, ◌%◌}
use Rattle.std.proofs.lemmas.Bool.{eq-eqb, ne_eqb, cases_lt}
use Rattle.std.proofs.lemmas.Bool.Decides.{eqb_tells}
use Rattle.std.specs.Simd.Lanes.{mask_l}
use Rattle.std.proofs.lemmas.List.{get_or-map}
use Rattle.std.proofs.lemmas.List.Sums.{length-filter}
use Rattle.std.proofs.lemmas.Nat.{one_shl, or_lt, pow_pos}
use Rattle.std.proofs.lemmas.Nat.Bits.{bit_at_or, bit_at_and, bit_at_not, bit_at-lt, bit_at-pow_same, bit_at-pow_other, bit_at_above}
use Rattle.std.proofs.lemmas.Nat.Bits.{and_pow, same_from_bits_below, bit_at-trailing_zeros}
use Rattle.std.proofs.lemmas.Simd.{mask_l-lt, bit_mask_l, ones-mask_l}
use Rattle.look_core.specs.declared.look.Look.{Look}
use Rattle.look_core.specs.declared.look.Look.TheVariants.{Start, End, StartLF, EndLF, StartCRLF, EndCRLF, WordAscii, WordAsciiNegate}
use Rattle.look_core.specs.declared.look.Look.TheVariants.{WordUnicode, WordUnicodeNegate, WordStartAscii, WordEndAscii, WordStartUnicode}
use Rattle.look_core.specs.declared.look.Look.TheVariants.{WordEndUnicode, WordStartHalfAscii, WordEndHalfAscii, WordStartHalfUnicode}
use Rattle.look_core.specs.declared.look.Look.TheVariants.{WordEndHalfUnicode}
use Rattle.look_core.specs.Codes.{bit_of, repr, same_look, all_looks}
use Rattle.look_core.specs.LookSets.{IsLookSet, has_look, union_of, shared_by, without, with_look, without_look, members, has_any}
use Rattle.look_core.specs.LookSets.{IsFirstLook}
use Rattle.look_core.proofs.LookRows.{look_at, look_at-bit_of, bit_of-lt, bit_of-look_at}

-- ---- a bit as a test

test_of : (d : ℕ) → d < 2 → cond (d == 1) 1 0 ≡ d
test_of zero h = refl
test_of (suc zero) h = refl
test_of (suc (suc d)) h = absurd (omega arith)

same_test : (d e : ℕ) → d < 2 → e < 2 → (d == 1) ≡ (e == 1) → d ≡ e
same_test d e p q h = sym (test_of d p) ∙ ap (λ b. cond b 1 0) h ∙ test_of e q

-- ---- sets made of others, member by member

either_bit : (a b : ℕ) → a < 2 → b < 2 → (max a b == 1) ≡ ((a == 1) || (b == 1))
either_bit zero zero p q = refl
either_bit zero (suc zero) p q = refl
either_bit (suc zero) zero p q = refl
either_bit (suc zero) (suc zero) p q = refl
either_bit (suc (suc a)) b p q = absurd (omega arith)
either_bit zero (suc (suc b)) p q = absurd (omega arith)
either_bit (suc zero) (suc (suc b)) p q = absurd (omega arith)

both_bits : (a b : ℕ) → a < 2 → b < 2 → (min a b == 1) ≡ ((a == 1) && (b == 1))
both_bits zero zero p q = refl
both_bits zero (suc zero) p q = refl
both_bits (suc zero) zero p q = refl
both_bits (suc zero) (suc zero) p q = refl
both_bits (suc (suc a)) b p q = absurd (omega arith)
both_bits zero (suc (suc b)) p q = absurd (omega arith)
both_bits (suc zero) (suc (suc b)) p q = absurd (omega arith)

other_bit : (b : ℕ) → b < 2 → ((1 - b) == 1) ≡ not (b == 1)
other_bit zero p = refl
other_bit (suc zero) p = refl
other_bit (suc (suc b)) p = absurd (omega arith)

pub has_look-union : (s t : ℕ) (l : Look) → has_look (union_of s t) l ≡ (has_look s l || has_look t l)
has_look-union s t l = ap (λ n. n == 1) (bit_at_or s t (bit_of l)) ∙ either_bit _ _ (bit_at-lt s (bit_of l)) (bit_at-lt t (bit_of l))

pub has_look-shared : (s t : ℕ) (l : Look) → has_look (shared_by s t) l ≡ (has_look s l && has_look t l)
has_look-shared s t l = ap (λ n. n == 1) (bit_at_and s t (bit_of l)) ∙ both_bits _ _ (bit_at-lt s (bit_of l)) (bit_at-lt t (bit_of l))

pub has_look-without : (s t : ℕ) (l : Look) → IsLookSet t → has_look (without s t) l ≡ (has_look s l && not (has_look t l))
has_look-without s t l h =
    ap (λ n. n == 1) (bit_at_and s (bit_not w32 t) (bit_of l))
    ∙ both_bits _ _ (bit_at-lt s (bit_of l)) (bit_at-lt (bit_not w32 t) (bit_of l))
    ∙ ap (λ b. has_look s l && b) (ap (λ n. n == 1) (bit_at_not w32 t (bit_of l) (omega arith) (omega (arith, bit_of-lt l)))
    ∙ other_bit _ (bit_at-lt t (bit_of l)))

power_bit : (k i : ℕ) → (bit_at (2 ^ k) i == 1) ≡ (i == k)
power_bit k i =
    ⊎_elim
    (λ h. ap (λ n. n == 1) (ap (bit_at (2 ^ k)) h.1 ∙ bit_at-pow_same k) ∙ sym h.0)
    (λ h. ap (λ n. n == 1) (bit_at-pow_other k i h.1) ∙ sym h.0)
    (eqb_tells i k)

pub has_look-repr : (k l : Look) → has_look (repr k) l ≡ same_look l k
has_look-repr k l = power_bit (bit_of k) (bit_of l)

pub repr-lt : (l : Look) → IsLookSet (repr l)
repr-lt Start = omega arith
repr-lt End = omega arith
repr-lt StartLF = omega arith
repr-lt EndLF = omega arith
repr-lt StartCRLF = omega arith
repr-lt EndCRLF = omega arith
repr-lt WordAscii = omega arith
repr-lt WordAsciiNegate = omega arith
repr-lt WordUnicode = omega arith
repr-lt WordUnicodeNegate = omega arith
repr-lt WordStartAscii = omega arith
repr-lt WordEndAscii = omega arith
repr-lt WordStartUnicode = omega arith
repr-lt WordEndUnicode = omega arith
repr-lt WordStartHalfAscii = omega arith
repr-lt WordEndHalfAscii = omega arith
repr-lt WordStartHalfUnicode = omega arith
repr-lt WordEndHalfUnicode = omega arith

pub has_look-with : (s : ℕ) (k l : Look) → has_look (with_look s k) l ≡ (has_look s l || same_look l k)
has_look-with s k l = has_look-union s (repr k) l ∙ ap (λ b. has_look s l || b) (has_look-repr k l)

pub has_look-without_look : (s : ℕ) (k l : Look) → has_look (without_look s k) l ≡ (has_look s l && not (same_look l k))
has_look-without_look s k l = has_look-without s (repr k) l (repr-lt k) ∙ ap (λ b. has_look s l && not b) (has_look-repr k l)

pub has_look-none : (l : Look) → has_look 0 l ≡ false
has_look-none Start = refl
has_look-none End = refl
has_look-none StartLF = refl
has_look-none EndLF = refl
has_look-none StartCRLF = refl
has_look-none EndCRLF = refl
has_look-none WordAscii = refl
has_look-none WordAsciiNegate = refl
has_look-none WordUnicode = refl
has_look-none WordUnicodeNegate = refl
has_look-none WordStartAscii = refl
has_look-none WordEndAscii = refl
has_look-none WordStartUnicode = refl
has_look-none WordEndUnicode = refl
has_look-none WordStartHalfAscii = refl
has_look-none WordEndHalfAscii = refl
has_look-none WordStartHalfUnicode = refl
has_look-none WordEndHalfUnicode = refl

pub union-lt : (s t : ℕ) → IsLookSet s → IsLookSet t → IsLookSet (union_of s t)
union-lt s t p q = or_lt 18 s t p q

-- ---- sets with the same members

pub same_members : (s t : ℕ) → IsLookSet s → IsLookSet t → ((l : Look) → has_look s l ≡ has_look t l) → s ≡ t
same_members s t p q h = same_from_bits_below 18 s t p q (λ i b. at i b (bit_of-look_at i b))
  where
    at : (i : ℕ) → i < 18 → bit_of (look_at i) ≡ i → bit_at s i ≡ bit_at t i
    at i b e =
        let same : bit_at s (bit_of (look_at i)) ≡ bit_at t (bit_of (look_at i)) =
        same_test _ _ (bit_at-lt s _) (bit_at-lt t _) (h (look_at i)) in
        subst (λ (j : ℕ). bit_at s j ≡ bit_at t j) e same

-- ---- a member by its number's bit in the set

pub contains_is : (s : ℕ) (l : Look) → not (bit_and s (repr l) == 0) ≡ has_look s l
contains_is s l = ap (λ n. not (n == 0)) (and_pow s (bit_of l)) ∙ bit_tells (bit_at s (bit_of l)) (2 ^ bit_of l) (bit_at-lt s (bit_of l))
    (pow_pos (bit_of l))
  where
    bit_tells : (d p : ℕ) → d < 2 → 0 < p → not ((d * p) == 0) ≡ (d == 1)
    bit_tells zero p h q = ap not (eq-eqb (0 * p) 0 (omega arith))
    bit_tells (suc zero) p h q = ap not (ne_eqb (1 * p) 0 (λ e. omega arith))
    bit_tells (suc (suc d)) p h q = absurd (omega arith)

-- ---- the number of the members

abbrev tests_of : ℕ → List Bool
tests_of s = map (has_look s) all_looks

bit_of-tests : (s i : ℕ) → i < 18 → bit_at (mask_l (tests_of s)) i ≡ bit_at s i
bit_of-tests s i h =
    bit_mask_l (tests_of s) i
    ∙ ap (λ b. cond b 1 0) (get_or-map (has_look s) all_looks i Start false h)
    ∙ test_of _ (bit_at-lt s (bit_of (look_at i)))
    ∙ ap (bit_at s) (bit_of-look_at i h)

pub count-members : (s : ℕ) → IsLookSet s → count_ones s ≡ length (members s)
count-members s h =
    let e : mask_l (tests_of s) ≡ s = same_from_bits_below 18 _ s (mask_l-lt (tests_of s)) h (bit_of-tests s) in
    ap count_ones (sym e) ∙ ones-mask_l (has_look s) all_looks ∙ sym (length-filter (has_look s) all_looks)

-- ---- the least member

filter_same : (f g : Look → Bool) (xs : List Look) → ((i : ℕ) → i < length xs → f (get_or xs i Start) ≡ g (get_or xs i Start)) →
    filter f xs ≡ filter g xs
filter_same f g [] h = refl
filter_same f g (x ∷ xs) h =
    ap (λ b. cond b (x ∷ filter f xs) (filter f xs)) (h 0 (omega arith))
    ∙ ap (λ ys. cond (g x) (x ∷ ys) ys) (filter_same f g xs (λ i l. h (suc i) (omega arith)))

filter_first : (f g : Look → Bool) (xs : List Look) (n : ℕ) → n < length xs
    → ((i : ℕ) → i < n → f (get_or xs i Start) ≡ false) → ((i : ℕ) → i < n → g (get_or xs i Start) ≡ false)
    → f (get_or xs n Start) ≡ true → g (get_or xs n Start) ≡ false
    → ((i : ℕ) → n < i → i < length xs → f (get_or xs i Start) ≡ g (get_or xs i Start))
    → filter f xs ≡ get_or xs n Start ∷ filter g xs
filter_first f g [] n l fb gb fh gh above = absurd (omega arith)
filter_first f g (x ∷ xs) zero l fb gb fh gh above =
    ap (λ b. cond b (x ∷ filter f xs) (filter f xs)) fh
    ∙ ap (λ ys. x ∷ ys) (filter_same f g xs (λ i h. above (suc i) (omega arith) (omega arith)))
    ∙ sym (ap (λ b. x ∷ cond b (x ∷ filter g xs) (filter g xs)) gh)
filter_first f g (x ∷ xs) (suc n) l fb gb fh gh above =
    ap (λ b. cond b (x ∷ filter f xs) (filter f xs)) (fb 0 (omega arith))
    ∙ filter_first f g xs n (omega arith) (λ i h. fb (suc i) (omega arith)) (λ i h. gb (suc i) (omega arith)) fh gh
    (λ i h k. above (suc i) (omega arith) (omega arith))
    ∙ sym (ap (λ b. get_or xs n Start ∷ cond b (x ∷ filter g xs) (filter g xs)) (gb 0 (omega arith)))

pub members-first : (s : ℕ) (l : Look) → has_look s l ≡ true → ((i : ℕ) → i < bit_of l → bit_at s i ≡ 0)
    → members s ≡ l ∷ members (without_look s l)
members-first s l here below =
    filter_first (has_look s) (has_look (without_look s l)) all_looks (bit_of l) (bit_of-lt l)
    lower (λ i h. has_look-without_look s l (look_at i) ∙ ap (λ b. b && not (same_look (look_at i) l)) (lower i h))
    (ap (has_look s) (look_at-bit_of l) ∙ here)
    (ap (has_look (without_look s l)) (look_at-bit_of l) ∙ has_look-without_look s l l
    ∙ (λ i. here i && not (eq-eqb (bit_of l) (bit_of l) refl i)))
    (λ i h b. sym (has_look-without_look s l (look_at i)
    ∙ ap (λ t. has_look s (look_at i) && not t) (ne_eqb (bit_of (look_at i)) (bit_of l) (λ e. omega (arith, e, bit_of-look_at i b)))
    ∙ and-true (has_look s (look_at i))))
    ∙ ap (λ k. k ∷ members (without_look s l)) (look_at-bit_of l)
  where
    lower : (i : ℕ) → i < bit_of l → has_look s (look_at i) ≡ false
    lower i h =
        let e : bit_of (look_at i) ≡ i = bit_of-look_at i (omega (arith, bit_of-lt l)) in
        ap (λ j. bit_at s j == 1) e ∙ ap (λ d. d == 1) (below i h)

set_bit-low : (s t : ℕ) → IsLookSet s → bit_at s t ≡ 1 → t < 18
set_bit-low s t h one = ⊎_elim (λ l. l) (λ le. absurd (omega (arith, bit_at_above s 18 t h le, one))) (cases_lt t 18)

first_at : (s n t : ℕ) (r : Option Look) → n ≡ 2 ^ t → t < 18 → bit_at s t ≡ 1 → ((i : ℕ) → i < t → bit_at s i ≡ 0)
    → ((l : Look) → (n ≡ repr l) ↔ (r ≡ Some l)) → IsFirstLook s r
first_at s n t r e low one below reports =
    let b : bit_of (look_at t) ≡ t = bit_of-look_at t low in
    let is : r ≡ Some (look_at t) = (reports (look_at t)).0 (e ∙ ap (λ j. 2 ^ j) (sym b)) in
    subst (λ (o : Option Look). IsFirstLook s o) (sym is)
    (members-first s (look_at t) (ap (λ j. bit_at s j == 1) b ∙ ap (λ d. d == 1) one) (λ i q. below i (omega (arith, b))))

-- the look of the lowest bit
pub first-some : (s n : ℕ) (r : Option Look) → IsLookSet s → 0 < s → n ≡ 1 * 2 ^ trailing_zeros w32 s % 2 ^ 32
    → ((l : Look) → (n ≡ repr l) ↔ (r ≡ Some l)) → IsFirstLook s r
first-some s n r h some e reports =
    let z = bit_at-trailing_zeros w32 s some (omega arith) in
    first_at s n (trailing_zeros w32 s) r (e ∙ one_shl (trailing_zeros w32 s) 32 z.0) (set_bit-low s _ h z.1) z.1 z.2 reports

-- what is left after the least member
pub first-gives : (s : ℕ) (r : Option Look) (l : Look) → r ≡ Some l → IsFirstLook s r → members s ≡ l ∷ members (without_look s l)
first-gives s r l e h = subst (λ (o : Option Look). IsFirstLook s o) e h

-- ---- families

-- as only the members of the family are asked for
pub has_any-flip : (test : Look → Bool) (s : ℕ) → list_any (λ l. test l && has_look s l) all_looks ≡ has_any test s
has_any-flip test s i = list_any (λ l. and_comm (test l) (has_look s l) i) all_looks

-- a family of two families
split_step : (h a b x y : Bool) → (((h && a) || x) || ((h && b) || y)) ≡ ((h && (a || b)) || (x || y))
split_step false a b x y = refl
split_step true true b x y = refl
split_step true false true true y = refl
split_step true false true false y = refl
split_step true false false x y = refl

any_of_both : (h p q : Look → Bool) (xs : List Look)
    → (list_any (λ l. h l && p l) xs || list_any (λ l. h l && q l) xs) ≡ list_any (λ l. h l && (p l || q l)) xs
any_of_both h p q [] = refl
any_of_both h p q (x ∷ xs) = split_step (h x) (p x) (q x) _ _ ∙ ap (λ t. (h x && (p x || q x)) || t) (any_of_both h p q xs)

pub has_any-both : (p q : Look → Bool) (s : ℕ) (a b : Bool) → a ≡ has_any p s → b ≡ has_any q s → (a || b) ≡ has_any (λ l. p l || q l) s
has_any-both p q s a b e f = (λ i. e i || f i) ∙ any_of_both (has_look s) p q all_looks
