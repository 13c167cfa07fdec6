-- What the ranges that the notation reads keep of the ranges that were printed.
use Rattle.std.proofs.Common.{◌≡◌, ℕ, zero, suc, ◌+◌, ◌<◌, ◌≤◌, min, max, Bool, true, false, ◌&&◌, nat_lt, nat_le, List, [], ◌∷◌}
use Rattle.std.proofs.Common.{Option, Some, None, All, refl, ◌∙◌, ap, inl, inr, arith, ◌==◌}
use Rattle.std.specs.List.{list_all}
use Rattle.std.proofs.lemmas.Bool.{cases_Bool, cases_lt, and_parts, and_from, or_cases, or_left, leb-true, le-leb, ltb-true, lt-ltb}
use Rattle.std.proofs.lemmas.Bool.Decides.{nat_tests}
use Rattle.std.proofs.lemmas.List.Elements.{All-head}
use Rattle.search_core.specs.Characters.{spelling_len}
use Rattle.hir_core.specs.Tree.{byte_class}
use Rattle.hir_core.specs.Means.{is_member}
use Rattle.hir_core.specs.Facts.{minimum_len, least_of_either, least_spelling, is_utf8_tree}
use Rattle.hirscan.specs.Words.{with_member, member_ranges, class_ranges, with_range, scalar_ranges}
use Rattle.hirhead.specs.HasLines.{IsByteRange}

-- ---- classes of bytes

abbrev IsLow : ℕ × ℕ → Bool
IsLow r = nat_lt r.1 0x80

low_with_member : (here : Bool) (b : ℕ) (ranges : List (ℕ × ℕ)) → (here ≡ true → b < 0x80) → list_all IsLow ranges ≡ true
    → list_all IsLow (with_member here b ranges) ≡ true
low_with_member false b ranges small h = h
low_with_member true b [] small h = and_from (nat_lt b 0x80) true (lt-ltb b 0x80 (small refl)) refl
low_with_member true b (r ∷ ranges) small h =
    let p = and_parts (IsLow r) (list_all IsLow ranges) h in
    elim (cases_Bool (r.0 == b + 1)) [
      | inl t ↦ rw t (and_from (nat_lt r.1 0x80) (list_all IsLow ranges) p.0 p.1)
      | inr f ↦
          rw f (and_from (nat_lt b 0x80) (nat_lt r.1 0x80 && list_all IsLow ranges) (lt-ltb b 0x80 (small refl))
          (and_from (nat_lt r.1 0x80) (list_all IsLow ranges) p.0 p.1))
    ]

low_from : (member : ℕ → Bool) → ((c : ℕ) → member c ≡ true → c < 0x80) → (n b : ℕ) → list_all IsLow (member_ranges member n b) ≡ true
low_from member small zero b = refl
low_from member small (suc n) b = low_with_member (member b) b (member_ranges member n (b + 1)) (small b) (low_from member small n (b + 1))

low_member : (ranges : List (ℕ × ℕ)) (c : ℕ) → list_all IsLow ranges ≡ true → is_member ranges c ≡ true → c < 0x80
low_member [] c h m = absurd cc
low_member (r ∷ ranges) c h m =
    let p = and_parts (IsLow r) (list_all IsLow ranges) h in
    let top = ltb-true r.1 0x80 p.0 in
    elim (or_cases (nat_le r.0 c && nat_le c r.1) (is_member ranges c) m) [
      | inl t ↦ let l = leb-true c r.1 (and_parts (nat_le r.0 c) (nat_le c r.1) t).1 in omega (arith, l, top)
      | inr t ↦ low_member ranges c p.1 t
    ]

-- ranges of ASCII are read as ranges of ASCII
pub class_utf8 : (ranges : List (ℕ × ℕ)) → is_utf8_tree (byte_class ranges) ≡ true → is_utf8_tree (byte_class (class_ranges ranges)) ≡ true
unfolding class_ranges
class_utf8 ranges h = low_from (is_member ranges) (λ c m. low_member ranges c h m) 256 0

some_member : (ranges : List (ℕ × ℕ)) (b : ℕ) → is_member ranges b ≡ true → minimum_len (byte_class ranges) ≡ Some 1
some_member [] b h = absurd cc
some_member (r ∷ ranges) b h = refl

first_member : (r : ℕ × ℕ) (ranges : List (ℕ × ℕ)) → r.0 ≤ r.1 → is_member (r ∷ ranges) r.0 ≡ true
first_member r ranges h =
    or_left (nat_le r.0 r.0 && nat_le r.0 r.1) (is_member ranges r.0)
    (and_from (nat_le r.0 r.0) (nat_le r.0 r.1) (le-leb r.0 r.0 (omega arith)) (le-leb r.0 r.1 h))

-- a class of bytes keeps its least length, given what it has as members
pub class_len : ((items : List (ℕ × ℕ)) (b : ℕ) → b < 256 → is_member (class_ranges items) b ≡ is_member items b)
    → (r : ℕ × ℕ) (ranges : List (ℕ × ℕ)) → All IsByteRange (r ∷ ranges)
    → minimum_len (byte_class (class_ranges (r ∷ ranges))) ≡ minimum_len (byte_class (r ∷ ranges))
class_len members r ranges h =
    let here = All-head IsByteRange r ranges h in
    let low = here.0 in let high = here.1 in
    some_member (class_ranges (r ∷ ranges)) r.0 (members (r ∷ ranges) r.0 (omega (arith, low, high)) ∙ first_member r ranges low)

-- ---- classes of scalars

len_rises : (a b : ℕ) → a ≤ b → spelling_len a ≤ spelling_len b
len_rises a b h = grind (arith, nat_tests)

len_of_least : (a b : ℕ) → spelling_len (min a b) ≡ min (spelling_len a) (spelling_len b)
len_of_least a b = elim (cases_lt a b) [
  | inl l ↦
      let e : min a b ≡ a = omega arith in
      let up = len_rises a b (omega arith) in
      rw e (omega (arith, up))
  | inr l ↦
      let e : min a b ≡ b = omega arith in
      let up = len_rises b a l in
      rw e (omega (arith, up))
]

least_swapped : (a b : ℕ) (o : Option ℕ) → least_of_either (Some a) (least_of_either (Some b) o) ≡
    least_of_either (Some b) (least_of_either (Some a) o)
least_swapped a b None = ap Some (omega arith)
least_swapped a b (Some c) = ap Some (omega arith)

least_joined : (a b : ℕ) (o : Option ℕ) → least_of_either (Some (min a b)) o ≡ least_of_either (Some a) (least_of_either (Some b) o)
least_joined a b None = refl
least_joined a b (Some c) = ap Some (omega arith)

least_with_range : (r : ℕ × ℕ) (ranges : List (ℕ × ℕ))
    → least_spelling (with_range r ranges) ≡ least_of_either (Some (spelling_len r.0)) (least_spelling ranges)
least_with_range r [] = refl
least_with_range r (s ∷ rest) =
    elim (cases_Bool (nat_lt (r.1 + 1) s.0)) [
      | inl t ↦ rw t refl
      | inr n ↦ elim (cases_Bool (nat_lt (s.1 + 1) r.0)) [
        | inl t ↦
            rw (n, t) (ap (least_of_either (Some (spelling_len s.0))) (least_with_range r rest)
            ∙ least_swapped (spelling_len s.0) (spelling_len r.0) (least_spelling rest))
        | inr k ↦
            rw (n, k) (least_with_range (min r.0 s.0, max r.1 s.1) rest
            ∙ ap (λ (m : ℕ). least_of_either (Some m) (least_spelling rest)) (len_of_least r.0 s.0)
            ∙ least_joined (spelling_len r.0) (spelling_len s.0) (least_spelling rest))
      ]
    ]

pub scalar_len : (ranges : List (ℕ × ℕ)) → least_spelling (scalar_ranges ranges) ≡ least_spelling ranges
unfolding scalar_ranges
scalar_len [] = refl
scalar_len (r ∷ ranges) =
    least_with_range r (scalar_ranges ranges) ∙ ap (least_of_either (Some (spelling_len r.0))) (scalar_len ranges)
