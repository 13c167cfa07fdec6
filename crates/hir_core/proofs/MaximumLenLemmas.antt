-- No span is longer than `maximum_len`.
use Rattle.std.proofs.Common.{◌≡◌, ℕ, zero, suc, ◌+◌, ◌*◌, ◌^◌, ◌≤◌, ◌<◌, ◌⊎◌, ⊎_elim, max, true, List, [], ◌∷◌, length, Option, Some, None}
use Rattle.std.proofs.Common.{refl, ap, subst, ◌∙◌, inl, inr, arith}
use Rattle.std.proofs.Math.Nat.{mul-le-mul_left}
use Rattle.std.proofs.lemmas.Bool.{cases_Bool}
use Rattle.search_core.specs.Characters.{spelling_len}
use Rattle.hir_core.specs.Tree.{Tree, empty, literal, byte_class, char_class, look, repetition, capture, nothing, cat, never, alt}
use Rattle.hir_core.specs.Means.{Looks, AtMost, Means, Rounds, is_member}
use Rattle.hir_core.specs.Facts.{capped, sum_of_both, greatest_of_both, times_most, longest_of, longest_spelling, is_never, maximum_len}
use Rattle.hir_core.specs.Facts.{IsAtMost}
use Rattle.hir_core.proofs.SpanLemmas.{span_within}
use Rattle.hir_core.proofs.SpellingLemmas.{member_len, spelling_len-mono, member_cases}

pub never_from_test : (y : Tree) → is_never y ≡ true → y ≡ never
never_from_test never e = refl
never_from_test _ e = absurd cc

-- the alternation of no parts means no span
pub no_never : (looks : Looks) (h : List ℕ) (y : Tree) (i j : ℕ) → is_never y ≡ true → Means looks h y i j → ⊥
no_never looks h y i j e m = (let P : Tree → Type 0 = λ z. Means looks h z i j in subst P (never_from_test y e) m)

longest_grows : (n : ℕ) (rs : List (ℕ × ℕ)) → n ≤ longest_of n rs
longest_grows n [] = omega arith
longest_grows n (r ∷ rs) = omega (arith, longest_grows (max n (spelling_len r.1)) rs)

-- a spelling of a member of the ranges is no longer than the longest
longest_member : (n : ℕ) (rs : List (ℕ × ℕ)) (c : ℕ) → is_member rs c ≡ true → spelling_len c ≤ longest_of n rs
longest_member n [] c m = absurd cc
longest_member n (r ∷ rs) c m = elim (member_cases r rs c m) [
  | inl p ↦ omega (arith, spelling_len-mono c r.1 p.1, longest_grows (max n (spelling_len r.1)) rs)
  | inr q ↦ longest_member (max n (spelling_len r.1)) rs c q
]

longest_sound : (ranges : List (ℕ × ℕ)) (c i j : ℕ) → is_member ranges c ≡ true → i + spelling_len c ≡ j →
    IsAtMost (longest_spelling ranges) i j
longest_sound [] c i j m e = tt
longest_sound (r ∷ rs) c i j m e = omega (arith, longest_member 0 (r ∷ rs) c m)

-- ---- spans of trees whose maximum length is 0 are empty
product_zero : (b n : ℕ) → capped (b * n) ≡ 0 → (b ≡ 0) ⊎ (n ≡ 0)
product_zero zero n e = inl refl
product_zero (suc b) zero e = inr refl
product_zero (suc b) (suc n) e = absurd (omega arith)

rounds_stay : (R : ℕ → ℕ → Type 0) → ((i j : ℕ) → R i j → i ≡ j) → (n i j : ℕ) → Rounds R n i j → i ≡ j
rounds_stay R each zero i j r = r
rounds_stay R each (suc n) i j r = each i r.0 r.1 ∙ rounds_stay R each n r.0 j r.2

no_rounds : (R : ℕ → ℕ → Type 0) (n i j : ℕ) → n ≡ 0 → Rounds R n i j → i ≡ j
no_rounds R zero i j e r = r
no_rounds R (suc n) i j e r = absurd (omega arith)

rounds_empty : (R : ℕ → ℕ → Type 0) (most o : Option ℕ) → (o ≡ Some 0 → (i j : ℕ) → R i j → i ≡ j) → times_most most o ≡ Some 0 →
    (n i j : ℕ) → AtMost n most → Rounds R n i j → i ≡ j
rounds_empty R None o each e n i j bound r = absurd cc
rounds_empty R (Some m) None each e n i j bound r = absurd cc
rounds_empty R (Some m) (Some b) each e n i j bound r = elim (product_zero b m cc) [
  | inl z ↦ rounds_stay R (each (ap Some z)) n i j r
  | inr z ↦ no_rounds R n i j (omega (arith, z, bound)) r
]

sum_zero : (a b : Option ℕ) → sum_of_both a b ≡ Some 0 → (a ≡ Some 0) × (b ≡ Some 0)
sum_zero None b e = absurd cc
sum_zero (Some a) None e = absurd cc
sum_zero (Some a) (Some b) e =
    let s : capped (a + b) ≡ 0 = cc in
    (ap Some (omega (arith, s)), ap Some (omega (arith, s)))

greatest_zero : (a b : Option ℕ) → greatest_of_both a b ≡ Some 0 → (a ≡ Some 0) × (b ≡ Some 0)
greatest_zero None b e = absurd cc
greatest_zero (Some a) None e = absurd cc
greatest_zero (Some a) (Some b) e =
    let s : max a b ≡ 0 = cc in
    (ap Some (omega (arith, s)), ap Some (omega (arith, s)))

module _ (looks : Looks) (h : List ℕ) where
  pub empty_sound : (x : Tree) (i j : ℕ) → maximum_len x ≡ Some 0 → Means looks h x i j → i ≡ j
  empty_sound empty i j e m = m
  empty_sound (literal bytes) i j e m = let l : length bytes ≡ 0 = cc in omega (arith, l, m.0)
  empty_sound (byte_class []) i j e m = absurd cc
  empty_sound (byte_class (r ∷ rs)) i j e m = absurd cc
  empty_sound (char_class ranges) i j e m =
      let l = rw e at (longest_sound ranges m.scalar i j m.member (member_len h ranges i j m)) in
      omega (arith, l, m.forward)
  empty_sound (look l) i j e m = m.0
  empty_sound (repetition low most greedy x) i j e m =
      rounds_empty (Means looks h x) most (maximum_len x) (λ f a b. empty_sound x a b f) e m.0 i j m.2 m.3
  empty_sound (capture index name x) i j e m = empty_sound x i j e m
  empty_sound nothing i j e m = m
  empty_sound (cat x y) i j e m =
      let parts = sum_zero (maximum_len x) (maximum_len y) e in
      empty_sound x i m.0 parts.0 m.1 ∙ empty_sound y m.0 j parts.1 m.2
  empty_sound never i j e m = elim m [ ]
  empty_sound (alt x y) i j e m = elim (cases_Bool (is_never y)) [
    | inl t ↦ (let only : maximum_len x ≡ Some 0 = rw t at e in ⊎_elim (empty_sound x i j only)
        (λ n. absurd (no_never looks h y i j t n)) m)
    | inr f ↦ (let parts = greatest_zero (maximum_len x) (maximum_len y) (rw f at e) in
        ⊎_elim (empty_sound x i j parts.0) (empty_sound y i j parts.1) m)
  ]

-- ---- the bound
rounds_short : (R : ℕ → ℕ → Type 0) (b end : ℕ) → ((i j : ℕ) → i ≤ end → R i j → (j ≤ end) × (j ≤ i + b)) → (n i j : ℕ) → i ≤ end →
    Rounds R n i j → j ≤ i + b * n
rounds_short R b end each zero i j p r = omega arith
rounds_short R b end each (suc n) i j p r =
    let one = each i r.0 p r.1 in
    omega (arith, one.1, rounds_short R b end each n r.0 j one.0 r.2)

rounds_bound : (R : ℕ → ℕ → Type 0) (most o : Option ℕ) (end : ℕ) → end < 2 ^ 64 →
    ((i j : ℕ) → i ≤ end → R i j → (j ≤ end) × IsAtMost o i j) →
    (n i j : ℕ) → i ≤ end → j ≤ end → AtMost n most → Rounds R n i j → IsAtMost (times_most most o) i j
rounds_bound R None o end wide each n i j p q bound r = tt
rounds_bound R (Some m) None end wide each n i j p q bound r = tt
rounds_bound R (Some m) (Some b) end wide each n i j p q bound r =
    let short = rounds_short R b end each n i j p r in
    let more = mul-le-mul_left b bound in
    omega (arith, short, more, q, wide)

sum_bound : (a b : Option ℕ) (i k j end : ℕ) → j ≤ end → end < 2 ^ 64 → IsAtMost a i k → IsAtMost b k j → IsAtMost (sum_of_both a b) i j
sum_bound None b i k j end q wide s t = tt
sum_bound (Some a) None i k j end q wide s t = tt
sum_bound (Some a) (Some b) i k j end q wide s t = omega arith

greatest_left : (a b : Option ℕ) (i j : ℕ) → IsAtMost a i j → IsAtMost (greatest_of_both a b) i j
greatest_left None b i j s = tt
greatest_left (Some a) None i j s = tt
greatest_left (Some a) (Some b) i j s = omega arith

greatest_right : (a b : Option ℕ) (i j : ℕ) → IsAtMost b i j → IsAtMost (greatest_of_both a b) i j
greatest_right None b i j s = tt
greatest_right (Some a) None i j s = tt
greatest_right (Some a) (Some b) i j s = omega arith

module _ (looks : Looks) (h : List ℕ) (wide : length h < 2 ^ 64) where
  pub maximum_len_sound : (x : Tree) (i j : ℕ) → i ≤ length h → Means looks h x i j → IsAtMost (maximum_len x) i j
  maximum_len_sound empty i j p m = omega (arith, m)
  maximum_len_sound (literal bytes) i j p m = omega (arith, m.0)
  maximum_len_sound (byte_class []) i j p m = tt
  maximum_len_sound (byte_class (r ∷ rs)) i j p m = omega (arith, m.0)
  maximum_len_sound (char_class ranges) i j p m = longest_sound ranges m.scalar i j m.member (member_len h ranges i j m)
  maximum_len_sound (look l) i j p m = omega (arith, m.0)
  maximum_len_sound (repetition low most greedy x) i j p m =
      rounds_bound (Means looks h x) most (maximum_len x) (length h) wide (λ a b q s. (
        span_within looks h x a b q s,
        maximum_len_sound x a b q s,
      ))
      m.0 i j p (span_within looks h (repetition low most greedy x) i j p m) m.2 m.3
  maximum_len_sound (capture index name x) i j p m = maximum_len_sound x i j p m
  maximum_len_sound nothing i j p m = omega (arith, m)
  maximum_len_sound (cat x y) i j p m =
      let mid = span_within looks h x i m.0 p m.1 in
      sum_bound (maximum_len x) (maximum_len y) i m.0 j (length h) (span_within looks h y m.0 j mid m.2) wide
      (maximum_len_sound x i m.0 p m.1) (maximum_len_sound y m.0 j mid m.2)
  maximum_len_sound never i j p m = elim m [ ]
  maximum_len_sound (alt x y) i j p m = elim (cases_Bool (is_never y)) [
    | inl t ↦ rw t (⊎_elim (maximum_len_sound x i j p) (λ n. absurd (no_never looks h y i j t n)) m)
    | inr f ↦ rw f (⊎_elim (λ n. greatest_left (maximum_len x) (maximum_len y) i j (maximum_len_sound x i j p n))
        (λ n. greatest_right (maximum_len x) (maximum_len y) i j (maximum_len_sound y i j p n)) m)
  ]
