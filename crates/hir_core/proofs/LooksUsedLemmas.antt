-- What a tree means depends on how the looks that it uses are read, and on no other look.
use Rattle.std.proofs.Common.{◌≡◌, ℕ, zero, suc, ◌-◌, ◌≤◌, Bool, true, cond, List, [], ◌∷◌, ◌++◌, length, Option, Some, None, refl, sym, ap}
use Rattle.std.proofs.Common.{◌∙◌, inl, inr, arith}
use Rattle.std.specs.List.{flat_map}
use Rattle.look_core.specs.declared.look.Look.{Look}
use Rattle.look_core.specs.LookSets.{has_look}
use Rattle.hir_core.specs.Tree.{Tree, empty, literal, byte_class, char_class, look, repetition, capture, nothing, cat, never, alt}
use Rattle.hir_core.specs.Means.{Looks, Means, Rounds}
use Rattle.hir_core.specs.PreferredEnds.{Ends, in_order, up_to, at_least, between, repeated, preferred_ends}
use Rattle.hir_core.specs.Facts.{looks_used}
use Rattle.hir_core.proofs.HasLemmas.{flat_map_same}
use Rattle.hir_core.proofs.LookFactLemmas.{one_held, union_left, union_right}
use Rattle.hir_core.proofs.LocalLookLemmas.{no_round_same}

-- two readings agree on the looks that the tree uses
abbrev pub Agree : Looks → Looks → Tree → Type 0
Agree f g x = (l : Look) → has_look (looks_used x) l ≡ true → (i : ℕ) → f l i ≡ g l i

pub rounds_map : (R S : ℕ → ℕ → Type 0) → ((i j : ℕ) → R i j → S i j) → (n i j : ℕ) → Rounds R n i j → Rounds S n i j
rounds_map R S each zero i j r = r
rounds_map R S each (suc n) i j r = (r.0, each i r.0 r.1, rounds_map R S each n r.0 j r.2)

no_round : (R S : ℕ → ℕ → Type 0) (n i j : ℕ) → n ≤ 0 → Rounds R n i j → Rounds S n i j
no_round R S zero i j le r = r
no_round R S (suc n) i j le r = absurd (omega arith)

module _ (f g : Looks) (h : List ℕ) where
  pub same_meaning : (x : Tree) → Agree f g x → (i j : ℕ) → Means f h x i j → Means g h x i j
  same_meaning empty a i j m = m
  same_meaning (literal bytes) a i j m = m
  same_meaning (byte_class ranges) a i j m = m
  same_meaning (char_class ranges) a i j m = m
  same_meaning (look l) a i j m = (m.0, sym (a l (one_held l l refl) i) ∙ m.1)
  same_meaning (repetition min None greedy x) a i j m = (
    m.0,
    m.1,
    tt,
    rounds_map (Means f h x) (Means g h x) (same_meaning x a) m.0 i j m.3,
  )
  same_meaning (repetition min (Some zero) greedy x) a i j m = (m.0, m.1, m.2, no_round (Means f h x) (Means g h x) m.0 i j m.2 m.3)
  same_meaning (repetition min (Some (suc most)) greedy x) a i j m = (
    m.0,
    m.1,
    m.2,
    rounds_map (Means f h x) (Means g h x) (same_meaning x a) m.0 i j m.3,
  )
  same_meaning (capture index name x) a i j m = same_meaning x a i j m
  same_meaning nothing a i j m = m
  same_meaning (cat x y) a i j m = (
    m.0,
    same_meaning x (λ l e. a l (union_left (looks_used x) (looks_used y) l e)) i m.0 m.1,
    same_meaning y (λ l e. a l (union_right (looks_used x) (looks_used y) l e)) m.0 j m.2,
  )
  same_meaning never a i j m = m
  same_meaning (alt x y) a i j (inl m) = inl (same_meaning x (λ l e. a l (union_left (looks_used x) (looks_used y) l e)) i j m)
  same_meaning (alt x y) a i j (inr m) = inr (same_meaning y (λ l e. a l (union_right (looks_used x) (looks_used y) l e)) i j m)

-- two bodies with the same ends at each offset
module _ (greedy : Bool) (b c : Ends) (same : (i : ℕ) → b i ≡ c i) where
  flat_same : (p q : Ends) → ((i : ℕ) → p i ≡ q i) → (i : ℕ) → flat_map p (b i) ≡ flat_map q (c i)
  flat_same p q each i = flat_map_same p q (b i) (λ k r. each k) ∙ ap (flat_map q) (same i)

  up_to_same : (n i : ℕ) → up_to greedy b n i ≡ up_to greedy c n i
  up_to_same zero i = refl
  up_to_same (suc n) i = ap (λ xs. in_order greedy xs i) (flat_same (up_to greedy b n) (up_to greedy c n) (up_to_same n) i)

  at_least_same : (h : List ℕ) (min i : ℕ) → at_least h greedy b min i ≡ at_least h greedy c min i
  at_least_same h zero i = up_to_same (length h - i) i
  at_least_same h (suc min) i = flat_same (at_least h greedy b min) (at_least h greedy c min) (at_least_same h min) i

  between_same : (min most i : ℕ) → between greedy b min most i ≡ between greedy c min most i
  between_same zero most i = up_to_same most i
  between_same (suc min) zero i = refl
  between_same (suc min) (suc most) i = flat_same (between greedy b min most) (between greedy c min most) (between_same min most) i

  repeated_same : (h : List ℕ) (min : ℕ) (most : Option ℕ) (i : ℕ) → repeated h min most greedy b i ≡ repeated h min most greedy c i
  repeated_same h min None i = at_least_same h min i
  repeated_same h min (Some most) i = between_same min most i

module _ (f g : Looks) (h : List ℕ) where
  pub same_ends : (x : Tree) → Agree f g x → (i : ℕ) → preferred_ends f h x i ≡ preferred_ends g h x i
  same_ends empty a i = refl
  same_ends (literal bytes) a i = refl
  same_ends (byte_class ranges) a i = refl
  same_ends (char_class ranges) a i = refl
  same_ends (look l) a i = ap (λ b. cond b (i ∷ []) []) (a l (one_held l l refl) i)
  same_ends (repetition min None greedy x) a i = repeated_same greedy (preferred_ends f h x) (preferred_ends g h x)
      (same_ends x a) h min None i
  same_ends (repetition min (Some zero) greedy x) a i = no_round_same greedy (preferred_ends f h x) (preferred_ends g h x) min i
  same_ends (repetition min (Some (suc most)) greedy x) a i = repeated_same greedy (preferred_ends f h x) (preferred_ends g h x)
      (same_ends x a) h min (Some (suc most)) i
  same_ends (capture index name x) a i = same_ends x a i
  same_ends nothing a i = refl
  same_ends (cat x y) a i =
      flat_map_same (preferred_ends f h y) (preferred_ends g h y) (preferred_ends f h x i)
      (λ k r. same_ends y (λ l e. a l (union_right (looks_used x) (looks_used y) l e)) k)
      ∙ ap (flat_map (preferred_ends g h y)) (same_ends x (λ l e. a l (union_left (looks_used x) (looks_used y) l e)) i)
  same_ends never a i = refl
  same_ends (alt x y) a i =
      ap (λ xs. xs ++ preferred_ends f h y i) (same_ends x (λ l e. a l (union_left (looks_used x) (looks_used y) l e)) i)
      ∙ ap (λ xs. preferred_ends g h x i ++ xs) (same_ends y (λ l e. a l (union_right (looks_used x) (looks_used y) l e)) i)
