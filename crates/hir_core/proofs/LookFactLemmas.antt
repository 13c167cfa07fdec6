-- The sets of looks of a tree: those that hold at the start and the end of each span, and all that are in it.
use Rattle.std.proofs.Common.{◌≡◌, ℕ, zero, suc, ◌≤◌, ◌⊎◌, ⊎_elim, true, List, Option, Some, None, refl, sym, ap, subst, ◌∙◌, inl, inr}
use Rattle.std.proofs.Common.{arith}
use Rattle.std.proofs.Math.Bool.{or-true}
use Rattle.std.proofs.lemmas.Bool.{cases_Bool, and_parts, or_cases, eqb-true, eq-eqb}
use Rattle.look_core.specs.declared.look.Look.{Look}
use Rattle.look_core.specs.Codes.{bit_of, repr}
use Rattle.look_core.specs.LookSets.{has_look, union_of, shared_by}
use Rattle.look_core.proofs.ForCallers.{same_from_bit, has_look-union, has_look-shared, has_look-repr, has_look-none}
use Rattle.hir_core.specs.Tree.{Tree, empty, literal, byte_class, char_class, look, repetition, capture, nothing, cat, never, alt}
use Rattle.hir_core.specs.Means.{Looks, Means, Rounds}
use Rattle.hir_core.specs.Facts.{maximum_len, is_never, reads_nothing, if_owed, look_set, look_set_prefix, look_set_suffix}
use Rattle.hir_core.specs.StandsIn.{StandsIn}
use Rattle.hir_core.proofs.MaximumLenLemmas.{empty_sound, no_never}

-- ---- members
pub none_has : (l : Look) → has_look 0 l ≡ true → ⊥
none_has l e = let n = has_look-none l in cc (e, n)

pub one_has : (k l : Look) → has_look (repr k) l ≡ true → l ≡ k
one_has k l e = same_from_bit l k (eqb-true (bit_of l) (bit_of k) (sym (has_look-repr k l) ∙ e))

pub one_held : (k l : Look) → l ≡ k → has_look (repr k) l ≡ true
one_held k l e = has_look-repr k l ∙ eq-eqb (bit_of l) (bit_of k) (ap bit_of e)

pub union_has : (s t : ℕ) (l : Look) → has_look (union_of s t) l ≡ true → (has_look s l ≡ true) ⊎ (has_look t l ≡ true)
union_has s t l e = or_cases (has_look s l) (has_look t l) (sym (has_look-union s t l) ∙ e)

pub union_left : (s t : ℕ) (l : Look) → has_look s l ≡ true → has_look (union_of s t) l ≡ true
union_left s t l e = has_look-union s t l ∙ rw e refl

pub union_right : (s t : ℕ) (l : Look) → has_look t l ≡ true → has_look (union_of s t) l ≡ true
union_right s t l e = has_look-union s t l ∙ rw e (or-true (has_look s l))

shared_has : (s t : ℕ) (l : Look) → has_look (shared_by s t) l ≡ true → (has_look s l ≡ true) × (has_look t l ≡ true)
shared_has s t l e = and_parts (has_look s l) (has_look t l) (sym (has_look-shared s t l) ∙ e)

-- ---- rounds
nothing_read : (o : Option ℕ) → reads_nothing o ≡ true → o ≡ Some 0
nothing_read None e = absurd cc
nothing_read (Some n) e = ap Some (eqb-true n 0 e)

-- the last of one round or more
last_round : (R : ℕ → ℕ → Type 0) (n i j : ℕ) → Rounds R (suc n) i j → (k : ℕ) × R k j
last_round R zero i j r = (i, (let P : ℕ → Type 0 = λ k. R i k in subst P r.2 r.1))
last_round R (suc n) i j r = last_round R n r.0 j r.2

owed_first : (R : ℕ → ℕ → Type 0) (min n i j : ℕ) → suc min ≤ n → Rounds R n i j → (k : ℕ) × R i k
owed_first R min zero i j le r = absurd (omega arith)
owed_first R min (suc n) i j le r = (r.0, r.1)

owed_last : (R : ℕ → ℕ → Type 0) (min n i j : ℕ) → suc min ≤ n → Rounds R n i j → (k : ℕ) × R k j
owed_last R min zero i j le r = absurd (omega arith)
owed_last R min (suc n) i j le r = last_round R n i j r

if_owed_has : (min s : ℕ) (l : Look) → has_look (if_owed min s) l ≡ true → (has_look s l ≡ true) × (k : ℕ) × (min ≡ suc k)
if_owed_has zero s l e = absurd (none_has l e)
if_owed_has (suc min) s l e = (e, min, refl)

module _ (looks : Looks) (h : List ℕ) (l : Look) where
  pub prefix_sound : (x : Tree) (i j : ℕ) → Means looks h x i j → has_look (look_set_prefix x) l ≡ true → looks l i ≡ true
  prefix_sound empty i j m e = absurd (none_has l e)
  prefix_sound (literal bytes) i j m e = absurd (none_has l e)
  prefix_sound (byte_class ranges) i j m e = absurd (none_has l e)
  prefix_sound (char_class ranges) i j m e = absurd (none_has l e)
  prefix_sound (look k) i j m e = (let P : Look → Type 0 = λ n. looks n i ≡ true in subst P (sym (one_has k l e)) m.1)
  prefix_sound (repetition min most greedy x) i j m e =
      let owed = if_owed_has min (look_set_prefix x) l e in
      let first = owed_first (Means looks h x) owed.1 m.0 i j (let low = m.1 in let is = owed.2 in omega arith) m.3 in
      prefix_sound x i first.0 first.1 owed.0
  prefix_sound (capture index name x) i j m e = prefix_sound x i j m e
  prefix_sound nothing i j m e = absurd (none_has l e)
  prefix_sound (cat x y) i j m e = elim (cases_Bool (reads_nothing (maximum_len x))) [
    | inl t ↦
        let same = empty_sound looks h x i m.0 (nothing_read (maximum_len x) t) m.1 in
        ⊎_elim (prefix_sound x i m.0 m.1) (λ f. let P : ℕ → Type 0 = λ k. looks l k ≡ true in
        subst P (sym same) (prefix_sound y m.0 j m.2 f))
        (union_has (look_set_prefix x) (look_set_prefix y) l (rw t at e))
    | inr f ↦ prefix_sound x i m.0 m.1 (rw f at e)
  ]
  prefix_sound never i j m e = elim m [ ]
  prefix_sound (alt x y) i j m e = elim (cases_Bool (is_never y)) [
    | inl t ↦ (let only : has_look (look_set_prefix x) l ≡ true = rw t at e in
        ⊎_elim (λ a. prefix_sound x i j a only) (λ b. absurd (no_never looks h y i j t b)) m)
    | inr f ↦ (let both = shared_has (look_set_prefix x) (look_set_prefix y) l (rw f at e) in
        ⊎_elim (λ a. prefix_sound x i j a both.0) (λ b. prefix_sound y i j b both.1) m)
  ]

  pub suffix_sound : (x : Tree) (i j : ℕ) → Means looks h x i j → has_look (look_set_suffix x) l ≡ true → looks l j ≡ true
  suffix_sound empty i j m e = absurd (none_has l e)
  suffix_sound (literal bytes) i j m e = absurd (none_has l e)
  suffix_sound (byte_class ranges) i j m e = absurd (none_has l e)
  suffix_sound (char_class ranges) i j m e = absurd (none_has l e)
  suffix_sound (look k) i j m e =
      (let P : Look → Type 0 = λ n. looks n j ≡ true in
      subst P (sym (one_has k l e)) (let Q : ℕ → Type 0 = λ p. looks k p ≡ true in subst Q m.0 m.1))
  suffix_sound (repetition min most greedy x) i j m e =
      let owed = if_owed_has min (look_set_suffix x) l e in
      let final = owed_last (Means looks h x) owed.1 m.0 i j (let low = m.1 in let is = owed.2 in omega arith) m.3 in
      suffix_sound x final.0 j final.1 owed.0
  suffix_sound (capture index name x) i j m e = suffix_sound x i j m e
  suffix_sound nothing i j m e = absurd (none_has l e)
  suffix_sound (cat x y) i j m e = elim (cases_Bool (reads_nothing (maximum_len y))) [
    | inl t ↦
        let same = empty_sound looks h y m.0 j (nothing_read (maximum_len y) t) m.2 in
        ⊎_elim (λ f. let P : ℕ → Type 0 = λ k. looks l k ≡ true in subst P same (suffix_sound x i m.0 m.1 f)) (suffix_sound y m.0 j m.2)
        (union_has (look_set_suffix x) (look_set_suffix y) l (rw t at e))
    | inr f ↦ suffix_sound y m.0 j m.2 (rw f at e)
  ]
  suffix_sound never i j m e = elim m [ ]
  suffix_sound (alt x y) i j m e = elim (cases_Bool (is_never y)) [
    | inl t ↦ (let only : has_look (look_set_suffix x) l ≡ true = rw t at e in
        ⊎_elim (λ a. suffix_sound x i j a only) (λ b. absurd (no_never looks h y i j t b)) m)
    | inr f ↦ (let both = shared_has (look_set_suffix x) (look_set_suffix y) l (rw f at e) in
        ⊎_elim (λ a. suffix_sound x i j a both.0) (λ b. suffix_sound y i j b both.1) m)
  ]

-- ---- all looks of a tree
pub look_set_sound : (l : Look) (x : Tree) → StandsIn l x → has_look (look_set x) l ≡ true
look_set_sound l empty s = elim s [ ]
look_set_sound l (literal bytes) s = elim s [ ]
look_set_sound l (byte_class ranges) s = elim s [ ]
look_set_sound l (char_class ranges) s = elim s [ ]
look_set_sound l (look k) s = one_held k l s
look_set_sound l (repetition min most greedy x) s = look_set_sound l x s
look_set_sound l (capture index name x) s = look_set_sound l x s
look_set_sound l nothing s = elim s [ ]
look_set_sound l (cat x y) (inl s) = union_left (look_set x) (look_set y) l (look_set_sound l x s)
look_set_sound l (cat x y) (inr s) = union_right (look_set x) (look_set y) l (look_set_sound l y s)
look_set_sound l never s = elim s [ ]
look_set_sound l (alt x y) (inl s) = union_left (look_set x) (look_set y) l (look_set_sound l x s)
look_set_sound l (alt x y) (inr s) = union_right (look_set x) (look_set y) l (look_set_sound l y s)

pub look_set_exact : (l : Look) (x : Tree) → has_look (look_set x) l ≡ true → StandsIn l x
look_set_exact l empty e = none_has l e
look_set_exact l (literal bytes) e = none_has l e
look_set_exact l (byte_class ranges) e = none_has l e
look_set_exact l (char_class ranges) e = none_has l e
look_set_exact l (look k) e = one_has k l e
look_set_exact l (repetition min most greedy x) e = look_set_exact l x e
look_set_exact l (capture index name x) e = look_set_exact l x e
look_set_exact l nothing e = none_has l e
look_set_exact l (cat x y) e = ⊎_elim (λ a. inl (look_set_exact l x a)) (λ b. inr (look_set_exact l y b))
    (union_has (look_set x) (look_set y) l e)
look_set_exact l never e = none_has l e
look_set_exact l (alt x y) e = ⊎_elim (λ a. inl (look_set_exact l x a)) (λ b. inr (look_set_exact l y b))
    (union_has (look_set x) (look_set y) l e)
