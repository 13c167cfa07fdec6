-- Take the marks of an automaton and of the ranges of a set. If two bytes are in one class of them, both are in the set or neither is.
use Rattle.std.proofs.Common.{◌≡◌, ℕ, zero, suc, ◌+◌, ◌-◌, ◌<◌, ◌≤◌, Bool, true, false, ◌&&◌, not, nat_lt, List, [], ◌∷◌, ◌++◌, length}
use Rattle.std.proofs.Common.{get_or, drop, map, cond, refl, sym, ap, ◌∙◌, subst, ⊎_elim, arith}
use Rattle.std.proofs.lemmas.Bool.{cases_Bool, cases_lt, and_parts}
use Rattle.std.proofs.lemmas.List.{get_or-drop}
use Rattle.std.proofs.lemmas.List.Elements.{All-head, All-tail}
use Rattle.std.proofs.lemmas.List.Sums.{prefix_len_passes}
use Rattle.std.specs.List.{All, filter, range_with_len, prefix_len}
use Rattle.search_core.specs.ByteSets.{has, bytes_where, starts_range, range_end, ranges_from}
use Rattle.search_core.specs.Marks.{marks_below, mark_range, recorded, IsUnmarked, IsIn, HoldsAllOrNone}
use Rattle.search_core.proofs.ForCallers.{same_class_tells}

-- ---- ranges of a set

starts_first : (set : List Bool) → has set 0 ≡ true → starts_range set 0 ≡ true
starts_first set e = ap (λ (x : Bool). x && not (nat_lt 0 0 && has set (0 - 1))) e

not_and : (x : Bool) → not (x && false) ≡ true
not_and true = refl
not_and false = refl

starts_next : (set : List Bool) (k b : ℕ) → b ≡ suc k → has set b ≡ true → has set k ≡ false → starts_range set b ≡ true
starts_next set k b is e f =
    let before : b - 1 ≡ k = omega (arith, is) in
    ap (λ (x : Bool). x && not (nat_lt 0 b && has set (b - 1))) e
    ∙ (ap (λ (n : ℕ). not (nat_lt 0 b && has set n)) before
    ∙ (ap (λ (x : Bool). not (nat_lt 0 b && x)) f ∙ not_and (nat_lt 0 b)))

starts_has : (set : List Bool) (s : ℕ) → starts_range set s ≡ true → has set s ≡ true
starts_has set s e = (and_parts (has set s) (not (nat_lt 0 s && has set (s - 1))) e).0

-- where the range that contains a byte of the set starts
start_below : (set : List Bool) (b : ℕ) → has set b ≡ true →
    (s : ℕ) × (s ≤ b) × (starts_range set s ≡ true) × ((c : ℕ) → s ≤ c → c ≤ b → has set c ≡ true)
start_below set zero e = (0, omega arith, starts_first set e, λ c l k. let is : c ≡ 0 = omega (arith, k) in ap (has set) is ∙ e)
start_below set (suc b) e = ⊎_elim
    (λ (t : has set b ≡ true).
    let r = start_below set b t in
    let low : r.0 ≤ b = r.1 in (
      r.0,
      omega (arith, low),
      r.2,
      λ c l k. ⊎_elim
          (λ (past : b < c). let is : c ≡ suc b = omega (arith, past, k) in ap (has set) is ∙ e)
          (λ (up : c ≤ b). r.3 c l up)
          (cases_lt b c),
    ))
    (λ (f : has set b ≡ false). (
      suc b,
      omega arith,
      starts_next set b (suc b) refl e f,
      λ c l k. let is : c ≡ suc b = omega (arith, l, k) in ap (has set) is ∙ e,
    ))
    (cases_Bool (has set b))

reaches : (xs : List Bool) (n : ℕ) → ((k : ℕ) → k < n → get_or xs k false ≡ true) → n ≤ prefix_len (λ m. m) xs
reaches xs zero h = omega arith
reaches [] (suc n) h = let never : false ≡ true = h 0 (omega arith) in absurd (grind (arith, never))
reaches (x ∷ xs) (suc n) h =
    let e : prefix_len (λ m. m) (x ∷ xs) ≡ 1 + prefix_len (λ m. m) xs =
    ap (λ (t : Bool). cond t (1 + prefix_len (λ m. m) xs) 0) (h 0 (omega arith)) in
    let later : n ≤ prefix_len (λ m. m) xs = reaches xs n (λ k l. h (suc k) (omega (arith, l))) in
    omega (arith, e, later)

range_reaches : (set : List Bool) (s b : ℕ) → ((c : ℕ) → s ≤ c → c ≤ b → has set c ≡ true) → b ≤ range_end set s
range_reaches set s b all =
    let far : b - s ≤ prefix_len (λ m. m) (drop (s + 1) set) = reaches (drop (s + 1) set) (b - s)
    (λ k l. get_or-drop (s + 1) set k false ∙ all (s + 1 + k) (omega arith) (omega (arith, l))) in
    omega (arith, far)

in_range : (set : List Bool) (s c : ℕ) → starts_range set s ≡ true → s ≤ c → c ≤ range_end set s → has set c ≡ true
in_range set s c starts low high = ⊎_elim
    (λ (past : s < c).
    let at : s + 1 + (c - (s + 1)) ≡ c = omega (arith, past) in
    ap (has set) (sym at) ∙ (sym (get_or-drop (s + 1) set (c - (s + 1)) false)
    ∙ prefix_len_passes (λ m. m) (drop (s + 1) set) (c - (s + 1)) false (omega (arith, past, high))))
    (λ (up : c ≤ s). let is : c ≡ s = omega (arith, up, low) in ap (has set) is ∙ starts_has set s starts)
    (cases_lt s c)

-- ---- what holds for each range

kept_here : (P : ℕ × ℕ → Type 0) (f : ℕ → ℕ × ℕ) (x : ℕ) (later : List ℕ) (t : Bool) → t ≡ true → All P (map f (cond t (x ∷ later) later)) →
    P (f x)
kept_here P f x later true e all = All-head P (f x) (map f later) all
kept_here P f x later false e all = let never : false ≡ true = e in absurd (grind (arith, never))

kept_later : (P : ℕ × ℕ → Type 0) (f : ℕ → ℕ × ℕ) (x : ℕ) (later : List ℕ) (t : Bool) → All P (map f (cond t (x ∷ later) later)) →
    All P (map f later)
kept_later P f x later true all = All-tail P (f x) (map f later) all
kept_later P f x later false all = all

each_kept : (P : ℕ × ℕ → Type 0) (f : ℕ → ℕ × ℕ) (test : ℕ → Bool) (from n : ℕ) → All P (map f (filter test (range_with_len from n))) →
    (s : ℕ) → from ≤ s → s < from + n → test s ≡ true → P (f s)
each_kept P f test from zero all s low high e = absurd (omega (arith, low, high))
each_kept P f test from (suc n) all s low high e = ⊎_elim
    (λ (past : from < s). each_kept P f test (from + 1) n (kept_later P f from (filter test (range_with_len (from + 1) n)) (test from) all)
    s (omega (arith, past)) (omega (arith, high)) e)
    (λ (up : s ≤ from).
    let is : from ≡ s = omega (arith, up, low) in
    subst (λ (x : ℕ). P (f x)) is (kept_here P f from (filter test (range_with_len (from + 1) n)) (test from) (ap test is ∙ e) all))
    (cases_lt from s)

each_range : (P : ℕ × ℕ → Type 0) (set : List Bool) → All P (ranges_from set 0) → (s : ℕ) → s < 256 → starts_range set s ≡ true →
    P (s, range_end set s)
unfolding bytes_where
each_range P set all s l e = each_kept P (λ b. (b, range_end set b)) (starts_range set) 0 256 all s (omega arith) (omega (arith, l)) e

-- ---- bytes of one class

module _ (set : List Bool) (b c : ℕ) (up : b ≤ c) (small : c < 256) (all : All (HoldsAllOrNone b c) (ranges_from set 0)) where
  later_too : has set b ≡ true → has set c ≡ true
  later_too e =
      let r = start_below set b e in
      let low : r.0 ≤ b = r.1 in
      ⊎_elim
      (λ holds. let there : IsIn (r.0, range_end set r.0) c = holds c up (omega arith) in in_range set r.0 c r.2 (there.0) (there.1))
      (λ none. absurd (none b (omega arith) up (low, range_reaches set r.0 b r.3)))
      (each_range (HoldsAllOrNone b c) set all r.0 (omega (arith, low, up, small)) r.2)

  earlier_too : has set c ≡ true → has set b ≡ true
  earlier_too e =
      let r = start_below set c e in
      let low : r.0 ≤ c = r.1 in
      ⊎_elim
      (λ holds. let there : IsIn (r.0, range_end set r.0) b = holds b (omega arith) up in in_range set r.0 b r.2 (there.0) (there.1))
      (λ none. absurd (none c up (omega arith) (low, range_reaches set r.0 c r.3)))
      (each_range (HoldsAllOrNone b c) set all r.0 (omega (arith, low, small)) r.2)

  both_or_none : has set b ≡ has set c
  both_or_none = same (has set b) (has set c) later_too earlier_too
    where
      same : (x y : Bool) → (x ≡ true → y ≡ true) → (y ≡ true → x ≡ true) → x ≡ y
      same true y f g = sym (f refl)
      same false true f g = g refl
      same false false f g = refl

recorded_twice : (m : List Bool) (rs qs : List (ℕ × ℕ)) → recorded m (rs ++ qs) ≡ recorded (recorded m rs) qs
recorded_twice m [] qs = refl
recorded_twice m (r ∷ rs) qs = recorded_twice (mark_range m r.0 r.1) rs qs

all_behind : (P : ℕ × ℕ → Type 0) (rs qs : List (ℕ × ℕ)) → All P (rs ++ qs) → All P qs
all_behind P [] qs all = all
all_behind P (r ∷ rs) qs all = all_behind P rs qs (All-tail P r (rs ++ qs) all)

-- the marks of other ranges may be set already
pub same_class_same_set : (set m : List Bool) (rs : List (ℕ × ℕ)) (b c : ℕ) → IsUnmarked m → length m ≡ 256 → b ≤ c → c < 256 →
    marks_below (recorded (recorded m rs) (ranges_from set 0)) b ≡ marks_below (recorded (recorded m rs) (ranges_from set 0)) c →
    has set b ≡ has set c
same_class_same_set set m rs b c none len up small e =
    let twice : recorded m (rs ++ ranges_from set 0) ≡ recorded (recorded m rs) (ranges_from set 0) =
    recorded_twice m rs (ranges_from set 0) in
    both_or_none set b c up small
    (all_behind (HoldsAllOrNone b c) rs (ranges_from set 0)
    (same_class_tells m (rs ++ ranges_from set 0) b c none up (omega (arith, len, small))
    (ap (λ (w : List Bool). marks_below w b) twice ∙ (e ∙ sym (ap (λ (w : List Bool). marks_below w c) twice)))))
