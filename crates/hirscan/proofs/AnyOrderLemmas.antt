-- Items of scalars make the same ranges in any order: ranges that stay apart are determined by their members.
use Rattle.std.proofs.Common.{◌≡◌, ℕ, ◌+◌, ◌<◌, ◌≤◌, true, false, ◌&&◌, ◌||◌, nat_le, List, [], ◌∷◌, map, None, refl, sym, ◌∙◌}
use Rattle.std.proofs.Common.{ap, subst, inl, inr, arith}
use Rattle.std.specs.List.{list_all}
use Rattle.std.specs.List.Sorted.{IsPermutation}
use Rattle.std.proofs.lemmas.Bool.{cases_lt, and_parts, and_from, or_cases, or_left, leb-true, le-leb, false_from_ne_true}
use Rattle.std.proofs.lemmas.List.Sorted.{All-permutation, list_any-IsPermutation}
use Rattle.std.proofs.lemmas.List.Sums.{AllPass-from_list_all, list_all-from_AllPass}
use Rattle.std.proofs.Math.Bool.{or-false}
use Rattle.hir_core.specs.Means.{is_member}
use Rattle.hirscan.specs.Words.{scalar_ranges}
use Rattle.hirscan.specs.Readers.{the_hex_ends}
use Rattle.hirscan.specs.LineFault.{first_fault_of, scalar_item_fault}
use Rattle.hirscan.proofs.ScalarRangeLemmas.{AreApart, in_order, faultless_in_order, scalar_ranges_apart, scalar_members}

in_first : (r : ℕ × ℕ) (rs : List (ℕ × ℕ)) (c : ℕ) → r.0 ≤ c → c ≤ r.1 → is_member (r ∷ rs) c ≡ true
in_first r rs c l h = or_left _ _ (and_from _ _ (le-leb r.0 c l) (le-leb c r.1 h))

members_above : (low : ℕ) (rs : List (ℕ × ℕ)) (c : ℕ) → AreApart low rs → is_member rs c ≡ true → low ≤ c
members_above low [] c h e = absurd cc
members_above low (r ∷ rs) c h e =
    let f = h.0 in
    let o = h.1 in
    elim (or_cases (nat_le r.0 c && nat_le c r.1) (is_member rs c) e) [
      | inl t ↦ let l = leb-true r.0 c (and_parts (nat_le r.0 c) (nat_le c r.1) t).0 in omega arith
      | inr t ↦ let l = members_above (r.1 + 2) rs c h.2 t in omega arith
    ]

none_below : (low : ℕ) (rs : List (ℕ × ℕ)) (c : ℕ) → AreApart low rs → c < low → is_member rs c ≡ false
none_below low rs c h l = false_from_ne_true (is_member rs c) (λ e. let m = members_above low rs c h e in omega arith)

-- after the first range the members are those of the others
others_above : (r : ℕ × ℕ) (rs : List (ℕ × ℕ)) (c : ℕ) → r.1 < c → is_member (r ∷ rs) c ≡ is_member rs c
others_above r rs c l =
    let out : (nat_le r.0 c && nat_le c r.1) ≡ false =
    false_from_ne_true _ (λ e. let m = leb-true c r.1 (and_parts (nat_le r.0 c) (nat_le c r.1) e).1 in omega arith) in
    ap (λ b. b || is_member rs c) out

-- two lists of ranges that have the same members
abbrev AreSame : List (ℕ × ℕ) → List (ℕ × ℕ) → Type 0
AreSame rs ss = (c : ℕ) → is_member rs c ≡ is_member ss c

start_at_most : (low : ℕ) (r s : ℕ × ℕ) (rs ss : List (ℕ × ℕ)) → r.0 ≤ r.1 → AreApart low (s ∷ ss) → AreSame (r ∷ rs) (s ∷ ss) → s.0 ≤ r.0
start_at_most low r s rs ss o h same =
    let from : AreApart s.0 (s ∷ ss) = (omega arith, h.1, h.2) in
    members_above s.0 (s ∷ ss) r.0 from (sym (same r.0) ∙ in_first r rs r.0 (omega arith) o)

end_at_most : (r s : ℕ × ℕ) (rs ss : List (ℕ × ℕ)) → r.0 ≡ s.0 → s.0 ≤ s.1 → AreApart (s.1 + 2) ss → AreSame (r ∷ rs) (s ∷ ss) → r.1 ≤ s.1
end_at_most r s rs ss starts o h same = elim (cases_lt s.1 r.1) [
  | inl l ↦ absurd
      (let one = in_first r rs (s.1 + 1) (omega arith) (omega arith) in
      let none = others_above s ss (s.1 + 1) (omega arith) ∙ none_below (s.1 + 2) ss (s.1 + 1) h (omega arith) in
      let both = same (s.1 + 1) in cc)
  | inr l ↦ l
]

others_same : (r s : ℕ × ℕ) (rs ss : List (ℕ × ℕ)) → r.1 ≡ s.1 → AreApart (r.1 + 2) rs → AreApart (s.1 + 2) ss
    → AreSame (r ∷ rs) (s ∷ ss) → AreSame rs ss
others_same r s rs ss ends a b same c = elim (cases_lt r.1 c) [
  | inl l ↦ sym (others_above r rs c l) ∙ (same c ∙ others_above s ss c (omega arith))
  | inr l ↦ none_below (r.1 + 2) rs c a (omega arith) ∙ sym (none_below (s.1 + 2) ss c b (omega arith))
]

told_by_members : (low : ℕ) (rs ss : List (ℕ × ℕ)) → AreApart low rs → AreApart low ss → AreSame rs ss → rs ≡ ss
told_by_members low [] [] a b same = refl
told_by_members low [] (s ∷ ss) a b same = absurd (let e = in_first s ss s.0 (omega arith) b.1 in let f = same s.0 in cc)
told_by_members low (r ∷ rs) [] a b same = absurd (let e = in_first r rs r.0 (omega arith) a.1 in let f = same r.0 in cc)
told_by_members low (r ∷ rs) (s ∷ ss) a b same =
    let back : AreSame (s ∷ ss) (r ∷ rs) = λ c. sym (same c) in
    let above = start_at_most low r s rs ss a.1 b same in
    let below = start_at_most low s r ss rs b.1 a back in
    let starts : r.0 ≡ s.0 = omega arith in
    let up = end_at_most r s rs ss starts b.1 b.2 same in
    let is_reverse = end_at_most s r ss rs (sym starts) a.1 a.2 back in
    let ends : r.1 ≡ s.1 = omega arith in
    let others = told_by_members (r.1 + 2) rs ss a.2 (subst (λ (n : ℕ). AreApart (n + 2) ss) (sym ends) b.2)
    (others_same r s rs ss ends a.2 b.2 same) in
    λ i. (starts i, ends i) ∷ others i

in_order-permutation : (items others : List (ℕ × ℕ)) → IsPermutation items others → list_all in_order items ≡ true
    → list_all in_order others ≡ true
in_order-permutation items others p h =
    list_all-from_AllPass in_order others (All-permutation (λ r. in_order r ≡ true) items others p (AllPass-from_list_all in_order items h))

-- items that have their low end first make the same ranges in any order
pub any_order : (items others : List (ℕ × ℕ)) → IsPermutation items others → list_all in_order items ≡ true
    → scalar_ranges others ≡ scalar_ranges items
any_order items others p h =
    told_by_members 0 (scalar_ranges others) (scalar_ranges items)
    (scalar_ranges_apart others (in_order-permutation items others p h)) (scalar_ranges_apart items h)
    (λ c. scalar_members others c
    ∙ (sym (list_any-IsPermutation (λ r. nat_le r.0 c && nat_le c r.1) items others p) ∙ sym (scalar_members items c)))

-- ---- items that are read one after the other, and their ranges in their order

ranges_in_order : (low : ℕ) (rs : List (ℕ × ℕ)) → AreApart low rs → list_all in_order rs ≡ true
ranges_in_order low [] h = refl
ranges_in_order low (r ∷ rs) h = and_from (in_order r) (list_all in_order rs) (le-leb r.0 r.1 h.1) (ranges_in_order (r.1 + 2) rs h.2)

pub scalar_ranges_in_order : (items : List (ℕ × ℕ)) → list_all in_order items ≡ true → list_all in_order (scalar_ranges items) ≡ true
scalar_ranges_in_order items h = ranges_in_order 0 (scalar_ranges items) (scalar_ranges_apart items h)

-- what was put has the ranges of all items, if no word has a fault
pub same_ranges : (ws : List (List ℕ)) (items : List (ℕ × ℕ)) → first_fault_of (map scalar_item_fault ws) ≡ None →
    list_all in_order items ≡ true
    → ((c : ℕ) → is_member (map the_hex_ends ws) c ≡ is_member items c || false)
    → scalar_ranges items ≡ scalar_ranges (map the_hex_ends ws)
same_ranges ws items none ordered same =
    told_by_members 0 (scalar_ranges items) (scalar_ranges (map the_hex_ends ws)) (scalar_ranges_apart items ordered)
    (scalar_ranges_apart (map the_hex_ends ws) (faultless_in_order ws none))
    (λ c. scalar_members items c ∙ (sym (same c ∙ or-false (is_member items c)) ∙ sym (scalar_members (map the_hex_ends ws) c)))
