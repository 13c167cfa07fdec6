-- The ranges of a class: built byte by byte from the last, ascending, with the members of the items.
use Rattle.std.proofs.Common.{◌≡◌, ℕ, zero, suc, ◌+◌, ◌-◌, ◌<◌, ◌≤◌, Bool, true, false, ◌&&◌, ◌||◌, nat_le, eqb, inl, inr, List, [], ◌∷◌}
use Rattle.std.proofs.Common.{reverse, refl, sym, ◌∙◌, ap, arith}
use Rattle.std.proofs.lemmas.Bool.{cases_Bool, cases_eq, and_parts, and_from, or_from, or_left, leb-true, le-leb, eqb-true, eq-eqb, ne_eqb}
use Rattle.std.proofs.lemmas.Bool.Decides.{nat_tests}
use Rattle.hir_core.specs.Means.{is_member}
use Rattle.hir_core.specs.Facts.{rises_from, is_ascending}
use Rattle.hirscan.specs.Words.{with_byte, with_member, member_ranges, class_ranges}

-- one byte further down
ranges_from_below : (member : ℕ → Bool) (n : ℕ) → 0 < n → n ≤ 256
    → member_ranges member (256 - (n - 1)) (n - 1) ≡ with_member (member (n - 1)) (n - 1) (member_ranges member (256 - n) n)
ranges_from_below member n h k =
    let e : 256 - (n - 1) ≡ suc (256 - n) = omega arith in
    let f : n - 1 + 1 ≡ n = omega arith in rw (e, f) refl

pub ranges_with_byte : (member : ℕ → Bool) (n : ℕ) (rs new : List (ℕ × ℕ)) → 0 < n → n ≤ 256 → member (n - 1) ≡ true
    → rs ≡ member_ranges member (256 - n) n → new ≡ with_byte (n - 1) rs → new ≡ member_ranges member (256 - (n - 1)) (n - 1)
ranges_with_byte member n rs new h k m was is = rw (ranges_from_below member n h k, m) (is ∙ ap (with_byte (n - 1)) was)

pub ranges_without_byte : (member : ℕ → Bool) (n : ℕ) (rs : List (ℕ × ℕ)) → 0 < n → n ≤ 256 → member (n - 1) ≡ false
    → rs ≡ member_ranges member (256 - n) n → rs ≡ member_ranges member (256 - (n - 1)) (n - 1)
ranges_without_byte member n rs h k m was = rw (ranges_from_below member n h k, m) was

-- the ranges are determined by the members below the end
ranges_from_same : (f g : ℕ → Bool) (n b : ℕ) → ((k : ℕ) → b ≤ k → k < b + n → f k ≡ g k) → member_ranges f n b ≡ member_ranges g n b
ranges_from_same f g zero b h = refl
ranges_from_same f g (suc n) b h =
    rw (h b (omega arith) (omega arith), ranges_from_same f g n (b + 1) (λ k l m. h k (omega arith) (omega arith))) refl

pub all_ranges : (items rs new : List (ℕ × ℕ)) (member : ℕ → Bool) (n : ℕ) → n ≡ 0 → reverse rs ≡ member_ranges member (256 - n) n
    → new ≡ reverse rs → ((b : ℕ) → b < 256 → member b ≡ is_member items b) → new ≡ class_ranges items
unfolding class_ranges
all_ranges items rs new member n z was is same =
    is ∙ (was ∙ (ap (λ k. member_ranges member (256 - k) k) z
    ∙ ranges_from_same member (is_member items) 256 0 (λ k l m. same k (omega arith))))

-- ranges that rise from a byte on rise from any lower one on
rises_lower : (b : ℕ) (rs : List (ℕ × ℕ)) → rises_from (b + 1) rs ≡ true → rises_from b rs ≡ true
rises_lower b [] h = refl
rises_lower b (r ∷ rs) h =
    let p = and_parts (nat_le (b + 1) r.0 && nat_le r.0 r.1) _ h in
    let q = and_parts (nat_le (b + 1) r.0) _ p.0 in
    let l : nat_le b r.0 ≡ true = le-leb b r.0 (let k = leb-true (b + 1) r.0 q.0 in omega arith) in
    and_from _ _ (and_from _ _ l q.1) p.1

rises_with_byte : (b : ℕ) (rs : List (ℕ × ℕ)) → rises_from (b + 1) rs ≡ true → rises_from b (with_byte b rs) ≡ true
rises_with_byte b [] h = let l = le-leb b b (omega arith) in rw l refl
rises_with_byte b (r ∷ rs) h =
    let l = le-leb b b (omega arith) in
    let p = and_parts (nat_le (b + 1) r.0 && nat_le r.0 r.1) _ h in
    let q = and_parts (nat_le (b + 1) r.0) _ p.0 in
    let m : nat_le b r.1 ≡ true =
    le-leb b r.1 (let k = leb-true (b + 1) r.0 q.0 in let n = leb-true r.0 r.1 q.1 in omega arith) in
    elim (cases_Bool (eqb r.0 (b + 1))) [
      | inl t ↦ rw t (and_from _ _ (and_from _ _ l m) p.1)
      | inr f ↦ rw f (and_from _ _ (and_from _ _ l l) h)
    ]

rises_with_member : (m : Bool) (b : ℕ) (rs : List (ℕ × ℕ)) → rises_from (b + 1) rs ≡ true → rises_from b (with_member m b rs) ≡ true
rises_with_member true b rs h = rises_with_byte b rs h
rises_with_member false b rs h = rises_lower b rs h

pub ranges_from_rise : (member : ℕ → Bool) (n b : ℕ) → rises_from b (member_ranges member n b) ≡ true
ranges_from_rise member zero b = refl
ranges_from_rise member (suc n) b = rises_with_member (member b) b _ (ranges_from_rise member n (b + 1))

pub class_ranges_ascend : (items : List (ℕ × ℕ)) → is_ascending (class_ranges items) ≡ true
unfolding class_ranges
class_ranges_ascend items = ranges_from_rise (is_member items) 256 0

-- the range of one more byte below, and a range of one byte
joined : (b low high c : ℕ) (others : Bool) → low ≡ b + 1 → low ≤ high
    → (nat_le b c && nat_le c high) || others ≡ eqb c b || ((nat_le low c && nat_le c high) || others)
joined b low high c others e h = grind (arith, nat_tests)

apart : (b c : ℕ) (others : Bool) → (nat_le b c && nat_le c b) || others ≡ eqb c b || others
apart b c others = grind (arith, nat_tests)

-- a byte before ranges that rise above it is a member, and the other members stay
is_member-with_byte : (b : ℕ) (rs : List (ℕ × ℕ)) (c : ℕ) → rises_from (b + 1) rs ≡ true
    → is_member (with_byte b rs) c ≡ eqb c b || is_member rs c
is_member-with_byte b [] c h = grind (arith, nat_tests)
is_member-with_byte b (r ∷ rs) c h =
    let p = and_parts (nat_le (b + 1) r.0 && nat_le r.0 r.1) _ h in
    let q = and_parts (nat_le (b + 1) r.0) _ p.0 in
    let k = leb-true (b + 1) r.0 q.0 in
    let n = leb-true r.0 r.1 q.1 in
    elim (cases_Bool (eqb r.0 (b + 1))) [
      | inl t ↦ rw t (joined b r.0 r.1 c (is_member rs c) (eqb-true _ _ t) n)
      | inr f ↦ rw f (apart b c _)
    ]

below_with_member : (m : Bool) (b : ℕ) (rs : List (ℕ × ℕ)) (c : ℕ) → c < b → rises_from (b + 1) rs ≡ true → is_member rs c ≡ false
    → is_member (with_member m b rs) c ≡ false
below_with_member true b rs c h k e = is_member-with_byte b rs c k ∙ or_from _ _ (ne_eqb c b (λ f. omega arith)) e
below_with_member false b rs c h k e = e

at_with_member : (m : Bool) (b : ℕ) (rs : List (ℕ × ℕ)) (c : ℕ) → c ≡ b → rises_from (b + 1) rs ≡ true → is_member rs c ≡ false
    → is_member (with_member m b rs) c ≡ m
at_with_member true b rs c h k e = is_member-with_byte b rs c k ∙ or_left _ _ (eq-eqb c b h)
at_with_member false b rs c h k e = e

above_with_member : (m : Bool) (b : ℕ) (rs : List (ℕ × ℕ)) (c : ℕ) → (c ≡ b → ⊥) → rises_from (b + 1) rs ≡ true
    → is_member (with_member m b rs) c ≡ is_member rs c
above_with_member true b rs c h k = let f = ne_eqb c b h in is_member-with_byte b rs c k ∙ ap (λ t. t || is_member rs c) f
above_with_member false b rs c h k = refl

-- no range of the bytes from b on has a lower byte
none_below : (member : ℕ → Bool) (n b c : ℕ) → c < b → is_member (member_ranges member n b) c ≡ false
none_below member zero b c h = refl
none_below member (suc n) b c h =
    below_with_member (member b) b _ c h (ranges_from_rise member n (b + 1)) (none_below member n (b + 1) c (omega arith))

members_from : (member : ℕ → Bool) (n b c : ℕ) → b ≤ c → c < b + n → is_member (member_ranges member n b) c ≡ member c
members_from member zero b c h k = absurd (omega arith)
members_from member (suc n) b c h k =
    elim (cases_eq c b) [
      | inl e ↦
          at_with_member (member b) b _ c e (ranges_from_rise member n (b + 1)) (none_below member n (b + 1) c (omega arith))
          ∙ ap member (sym e)
      | inr ne ↦
          above_with_member (member b) b _ c ne (ranges_from_rise member n (b + 1))
          ∙ members_from member n (b + 1) c (omega arith) (omega arith)
    ]

pub class_members : (items : List (ℕ × ℕ)) (b : ℕ) → b < 256 → is_member (class_ranges items) b ≡ is_member items b
unfolding class_ranges
class_members items b h = members_from (is_member items) 256 0 b (omega arith) (omega arith)
