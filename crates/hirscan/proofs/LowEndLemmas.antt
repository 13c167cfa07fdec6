-- The items of a class by the least low end at each byte where one ends.
use Rattle.std.proofs.Common.{◌≡◌, ℕ, zero, suc, ◌+◌, ◌-◌, ◌<◌, ◌≤◌, Bool, true, false, ◌&&◌, ◌||◌, nat_le, min, inl, inr, List, [], ◌∷◌}
use Rattle.std.proofs.Common.{length, get_or, set, drop, replicate, refl, sym, ◌∙◌, ap, arith}
use Rattle.std.proofs.lemmas.Bool.{cases_lt, le-leb, leb-true, false_from_ne_true}
use Rattle.std.proofs.lemmas.Bool.Decides.{nat_tests}
use Rattle.std.proofs.lemmas.List.{get_or-drop, drop-set-lt, drop-set-add, drop_more, length-drop, nil_from_length}
use Rattle.hirscan.specs.Words.{least, is_covered}

least_none : (none n b : ℕ) → none ≡ 256 → least (drop b (replicate n none)) ≡ none
least_none none zero zero e = sym e
least_none none zero (suc b) e = sym e
least_none none (suc n) zero e = let f = least_none none n 0 e in omega arith
least_none none (suc n) (suc b) e = least_none none n b e

-- if no item ends anywhere, no byte is in one
pub none_covered : (n b : ℕ) → b < 256 → is_covered (replicate n 256) b ≡ false
none_covered n b l =
    let e = least_none 256 n b refl in
    false_from_ne_true _ (λ t. let f = leb-true (least (drop b (replicate n 256))) b t in omega arith)

least_set : (ns : List ℕ) (i low : ℕ) → i < length ns → least (set ns i (min (get_or ns i 0) low)) ≡ min low (least ns)
least_set [] i low h = absurd (omega arith)
least_set (n ∷ ns) zero low h = omega arith
least_set (n ∷ ns) (suc i) low h = let e = least_set ns i low (omega arith) in omega arith

either : (low others b high : ℕ) → b ≤ high → nat_le (min low others) b ≡ (nat_le low b && nat_le b high) || nat_le others b
either low others b high h = grind (arith, nat_tests)

neither : (low b high : ℕ) (others : Bool) → high < b → others ≡ (nat_le low b && nat_le b high) || others
neither low b high others h = grind (arith, nat_tests)

-- one more item
pub covered_more : (lows : List ℕ) (low high b : ℕ) → high < length lows
    → is_covered (set lows high (min (get_or lows high 0) low)) b ≡ (nat_le low b && nat_le b high) || is_covered lows b
covered_more lows low high b h =
    elim (cases_lt high b) [
      | inl l ↦
          ap (λ ns. nat_le (least ns) b) (drop-set-lt b lows high (min (get_or lows high 0) low) l)
          ∙ neither low b high (is_covered lows b) l
      | inr l ↦
          let e : b + (high - b) ≡ high = omega arith in
          let at : get_or (drop b lows) (high - b) 0 ≡ get_or lows high 0 =
          get_or-drop b lows (high - b) 0 ∙ ap (λ k. get_or lows k 0) e in
          let dropped = drop-set-add b lows (high - b) (min (get_or lows high 0) low) in
          let is = least_set (drop b lows) (high - b) low (omega (arith, length-drop b lows)) in
          let is2 : least (drop b (set lows high (min (get_or lows high 0) low))) ≡ min low (least (drop b lows)) =
          ap least (rw e at dropped) ∙ rw at at is in
          ap (λ n. nat_le n b) is2 ∙ either low (least (drop b lows)) b high l
    ]

-- the least low end from a byte on, one byte further down
pub least_below : (lows : List ℕ) (n low now : ℕ) → 0 < n → n ≤ length lows → low ≡ least (drop n lows)
    → now ≡ min low (get_or lows (n - 1) 0) → now ≡ least (drop (n - 1) lows)
least_below lows n low now some h was is =
    let e : n - 1 + 1 ≡ n = omega arith in
    let d = drop_more lows (n - 1) 0 (omega arith) in
    let m : least (drop (n - 1) lows) ≡ min (get_or lows (n - 1) 0) (least (drop n lows)) = ap least (rw e at d) in
    omega arith

pub covered_at : (lows : List ℕ) (b low : ℕ) → low ≡ least (drop b lows) → low ≤ b → is_covered lows b ≡ true
covered_at lows b low e h = le-leb (least (drop b lows)) b (omega arith)

pub not_covered_at : (lows : List ℕ) (b low : ℕ) → low ≡ least (drop b lows) → b < low → is_covered lows b ≡ false
not_covered_at lows b low e h = false_from_ne_true _ (λ t. let f = leb-true (least (drop b lows)) b t in omega arith)

pub least_past : (lows : List ℕ) (n : ℕ) → length lows ≤ n → 256 ≡ least (drop n lows)
least_past lows n h = sym (ap least (nil_from_length (drop n lows) (omega (arith, length-drop n lows))))
