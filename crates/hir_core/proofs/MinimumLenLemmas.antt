-- No span is shorter than `minimum_len`.
use Rattle.std.proofs.Common.{◌≡◌, true, ℕ, zero, suc, ◌+◌, ◌*◌, ◌≤◌, ◌<◌, List, [], ◌∷◌, Option, Some, None, sym, inl, inr, arith}
use Rattle.std.proofs.Common.{true≢false}
use Rattle.std.proofs.Math.Nat.{mul-le-mul_left}
use Rattle.hir_core.specs.Tree.{Tree, empty, literal, byte_class, char_class, look, repetition, capture, nothing, cat, never, alt}
use Rattle.hir_core.specs.Means.{Looks, Means, Rounds, is_member}
use Rattle.hir_core.specs.Facts.{sum_of_both, least_of_either, times, least_spelling, minimum_len, IsAtLeast, IsAboveZero}
use Rattle.hir_core.proofs.SpanLemmas.{IsSpan-Means}
use Rattle.search_core.specs.Characters.{spelling_len}
use Rattle.hir_core.proofs.SpellingLemmas.{member_len, spelling_len-mono, member_cases}

IsAtLeast-sum_of_both : (a b : Option ℕ) (i k j : ℕ) → IsAtLeast a i k → IsAtLeast b k j → IsAtLeast (sum_of_both a b) i j
IsAtLeast-sum_of_both None b i k j p q = elim p [ ]
IsAtLeast-sum_of_both (Some a) None i k j p q = elim q [ ]
IsAtLeast-sum_of_both (Some a) (Some b) i k j p q = omega arith

IsAtLeast-left : (a b : Option ℕ) (i j : ℕ) → IsAtLeast a i j → IsAtLeast (least_of_either a b) i j
IsAtLeast-left None b i j p = elim p [ ]
IsAtLeast-left (Some a) None i j p = p
IsAtLeast-left (Some a) (Some b) i j p = omega arith

IsAtLeast-right : (a b : Option ℕ) (i j : ℕ) → IsAtLeast b i j → IsAtLeast (least_of_either a b) i j
IsAtLeast-right a None i j p = elim p [ ]
IsAtLeast-right None (Some b) i j p = p
IsAtLeast-right (Some a) (Some b) i j p = omega arith

-- rounds of at least m bytes each
rounds_long : (R : ℕ → ℕ → Type 0) (m : ℕ) → ((i j : ℕ) → R i j → i + m ≤ j) → (n i j : ℕ) → Rounds R n i j → i + m * n ≤ j
rounds_long R m each zero i j r = omega arith
rounds_long R m each (suc n) i j r = omega (arith, each i r.0 r.1, rounds_long R m each n r.0 j r.2)

IsAtLeast-times : (R : ℕ → ℕ → Type 0) (o : Option ℕ) → ((i j : ℕ) → R i j → IsAtLeast o i j) → ((i j : ℕ) → R i j → i ≤ j) →
    (low n i j : ℕ) → low ≤ n → Rounds R n i j → IsAtLeast (times low o) i j
IsAtLeast-times R o each forward zero n i j le r =
    omega (arith, rounds_long R 0 (λ a b s. let step = forward a b s in omega arith) n i j r)
IsAtLeast-times R None each forward (suc low) zero i j le r = absurd (omega arith)
IsAtLeast-times R None each forward (suc low) (suc n) i j le r = each i r.0 r.1
IsAtLeast-times R (Some m) each forward (suc low) n i j le r =
    let long = rounds_long R m each n i j r in
    let more = mul-le-mul_left m le in
    omega arith

-- a spelling of a member of the ranges is no shorter than the shortest
shortest : (ranges : List (ℕ × ℕ)) (c i j : ℕ) → is_member ranges c ≡ true → i + spelling_len c ≡ j → IsAtLeast (least_spelling ranges) i j
shortest [] c i j m e = absurd cc
shortest (r ∷ rs) c i j m e = elim (member_cases r rs c m) [
  | inl p ↦ IsAtLeast-left (Some (spelling_len r.0)) (least_spelling rs) i j (let l = spelling_len-mono r.0 c p.0 in omega arith)
  | inr q ↦ IsAtLeast-right (Some (spelling_len r.0)) (least_spelling rs) i j (shortest rs c i j q e)
]

module _ (looks : Looks) (h : List ℕ) where
  pub minimum_len_sound : (x : Tree) (i j : ℕ) → Means looks h x i j → IsAtLeast (minimum_len x) i j
  minimum_len_sound empty i j m = omega arith
  minimum_len_sound (literal bytes) i j m = omega arith
  minimum_len_sound (byte_class []) i j m = true≢false (sym m.3)
  minimum_len_sound (byte_class (r ∷ rs)) i j m = omega arith
  minimum_len_sound (char_class ranges) i j m = shortest ranges m.scalar i j m.member (member_len h ranges i j m)
  minimum_len_sound (look l) i j m = let e = m.0 in omega arith
  minimum_len_sound (repetition low most greedy x) i j m =
      IsAtLeast-times (Means looks h x) (minimum_len x) (minimum_len_sound x)
      (λ a b s. (IsSpan-Means looks h x a b s).forward) low m.0 i j m.1 m.3
  minimum_len_sound (capture index name x) i j m = minimum_len_sound x i j m
  minimum_len_sound nothing i j m = omega arith
  minimum_len_sound (cat x y) i j m =
      IsAtLeast-sum_of_both (minimum_len x) (minimum_len y) i m.0 j (minimum_len_sound x i m.0 m.1) (minimum_len_sound y m.0 j m.2)
  minimum_len_sound never i j m = elim m [ ]
  minimum_len_sound (alt x y) i j (inl m) = IsAtLeast-left _ (minimum_len y) i j (minimum_len_sound x i j m)
  minimum_len_sound (alt x y) i j (inr m) = IsAtLeast-right (minimum_len x) _ i j (minimum_len_sound y i j m)

  above_zero : (o : Option ℕ) (i j : ℕ) → IsAboveZero o → IsAtLeast o i j → i < j
  above_zero None i j a l = elim a [ ]
  above_zero (Some n) i j a l = omega arith

  -- a span of a tree whose minimum length is above 0 consumes a byte
  pub reads_a_byte : (x : Tree) → IsAboveZero (minimum_len x) → (i j : ℕ) → Means looks h x i j → i < j
  reads_a_byte x a i j m = above_zero (minimum_len x) i j a (minimum_len_sound x i j m)
