-- A class is the number of marks below, so bytes are in one class if no mark lies between them. A range's marks lie between two bytes
-- unless it holds all bytes from one to the other or none.
use Rattle.std.proofs.Common.{◌≡◌, ◌≢◌, ℕ, zero, suc, ◌+◌, ◌-◌, ◌<◌, ◌≤◌, ◌⊎◌, ◌↔◌, Bool, true, false, eqb, List, [], ◌∷◌, length, get_or}
use Rattle.std.proofs.Common.{set, refl, sym, ap, ◌∙◌, subst, inl, inr, arith, get_or-set_other, get_or-set_same, length-set}
use Rattle.std.specs.List.{All}
use Rattle.std.proofs.lemmas.Bool.{cases_Bool, cases_lt, cases_eq, eq-eqb, ne_eqb, cond-true, cond-false}
use Rattle.std.proofs.lemmas.List.Sums.{count_by_more_yes, count_by_more_no}
use Rattle.std.proofs.lemmas.List.Elements.{All-nil, All-cons, All-head, All-tail, All-weaker}
use Rattle.search_core.specs.Marks.{marks_below, mark_before, mark_range, recorded, IsUnmarked, IsRangeBelow, IsIn, HoldsAllOrNone}
use Rattle.search_core.specs.Marks.{HasMarks}

-- ---- the number of marks below a byte
pub below_zero : (m : List Bool) → marks_below m 0 ≡ 0
below_zero [] = refl
below_zero (x ∷ xs) = refl

pub below_marked : (m : List Bool) (b : ℕ) → b < length m → get_or m b false ≡ true → marks_below m (b + 1) ≡ marks_below m b + 1
below_marked m b h e = count_by_more_yes (λ x. x) m b false h e

pub below_unmarked : (m : List Bool) (b : ℕ) → b < length m → get_or m b false ≡ false → marks_below m (b + 1) ≡ marks_below m b
below_unmarked m b h e = count_by_more_no (λ x. x) m b false h e

pub below_next : (m : List Bool) (b : ℕ) → b < length m → (marks_below m (b + 1) ≡ marks_below m b) ⊎
    (marks_below m (b + 1) ≡ marks_below m b + 1)
below_next m b h = elim (cases_Bool (get_or m b false)) [
  | inl e ↦ inr (below_marked m b h e)
  | inr e ↦ inl (below_unmarked m b h e)
]

at_suc : (m : List Bool) (a d n : ℕ) → marks_below m ((a + d) + 1) ≡ n → marks_below m (a + suc d) ≡ n
at_suc m a d n h = let e : (a + d) + 1 ≡ a + suc d = omega arith in let P : ℕ → Type 0 = λ i. marks_below m i ≡ n in subst P e h

below_rises_by : (m : List Bool) (a d : ℕ) → a + d ≤ length m → marks_below m a ≤ marks_below m (a + d)
below_rises_by m a zero h = let e : a ≡ a + 0 = omega arith in let P : ℕ → Type 0 = λ i. marks_below m a ≤ marks_below m i in
    subst P e (omega arith)
below_rises_by m a (suc d) h =
    let ih : marks_below m a ≤ marks_below m (a + d) = below_rises_by m a d (omega arith) in
    let lt : a + d < length m = omega arith in
    elim (below_next m (a + d) lt) [
      | inl e ↦ let f : marks_below m (a + suc d) ≡ marks_below m (a + d) = at_suc m a d _ e in omega arith
      | inr e ↦ let f : marks_below m (a + suc d) ≡ marks_below m (a + d) + 1 = at_suc m a d _ e in omega arith
    ]

pub below_rises : (m : List Bool) (a b : ℕ) → a ≤ b → b ≤ length m → marks_below m a ≤ marks_below m b
below_rises m a b h k =
    let e : a + (b - a) ≡ b = omega arith in
    let P : ℕ → Type 0 = λ i. marks_below m a ≤ marks_below m i in
    subst P e (below_rises_by m a (b - a) (omega arith))

below_same_by : (m : List Bool) (a d : ℕ) → a + d ≤ length m → ((k : ℕ) → a ≤ k → k < a + d → get_or m k false ≡ false) →
    marks_below m a ≡ marks_below m (a + d)
below_same_by m a zero h u = let e : a ≡ a + 0 = omega arith in ap (marks_below m) e
below_same_by m a (suc d) h u =
    let ih : marks_below m a ≡ marks_below m (a + d) = below_same_by m a d (omega arith) (λ k p q. u k p (omega arith)) in
    let lt : a + d < length m = omega arith in
    let f : marks_below m (a + suc d) ≡ marks_below m (a + d) = at_suc m a d _
    (below_unmarked m (a + d) lt (u (a + d) (omega arith) (omega arith))) in
    ih ∙ sym f

-- no byte from a up to b has a mark
abbrev IsClear : List Bool → ℕ → ℕ → Type 0
IsClear m a b = (k : ℕ) → a ≤ k → k < b → get_or m k false ≡ false

clear_same : (m : List Bool) (a b : ℕ) → a ≤ b → b ≤ length m → IsClear m a b → marks_below m a ≡ marks_below m b
clear_same m a b h k u =
    let e : a + (b - a) ≡ b = omega arith in
    let P : ℕ → Type 0 = λ i. marks_below m a ≡ marks_below m i in
    subst P e (below_same_by m a (b - a) (omega arith) (λ i p q. u i p (omega arith)))

same_clear : (m : List Bool) (a b : ℕ) → b ≤ length m → marks_below m a ≡ marks_below m b → IsClear m a b
same_clear m a b h e = λ k p q. elim (cases_Bool (get_or m k false)) [
  | inl t ↦
      let lt : k < length m = omega arith in
      let one = below_rises m a k p (omega arith) in
      let two = below_marked m k lt t in
      let three = below_rises m (k + 1) b (omega arith) h in
      absurd (omega arith)
  | inr f ↦ f
]

-- ---- the marks of one range
before_none : (m : List Bool) (lo : ℕ) → lo ≡ 0 → mark_before m lo ≡ m
before_none m lo e = cond-true (eqb lo 0) _ _ (eq-eqb lo 0 e)

before_some : (m : List Bool) (lo : ℕ) → lo ≢ 0 → mark_before m lo ≡ set m (lo - 1) true
before_some m lo n = cond-false (eqb lo 0) _ _ (ne_eqb lo 0 n)

length-mark_before : (m : List Bool) (lo : ℕ) → length (mark_before m lo) ≡ length m
length-mark_before m lo = elim (cases_eq lo 0) [
  | inl e ↦ ap length (before_none m lo e)
  | inr n ↦ ap length (before_some m lo n) ∙ length-set m (lo - 1) true
]

length-mark_range : (m : List Bool) (lo hi : ℕ) → length (mark_range m lo hi) ≡ length m
length-mark_range m lo hi = length-set (mark_before m lo) hi true ∙ length-mark_before m lo

set_keeps : (m : List Bool) (i k : ℕ) → k < length m → get_or m k false ≡ true → get_or (set m i true) k false ≡ true
set_keeps m i k h t = elim (cases_eq k i) [
  | inl e ↦ let lt : i < length m = omega arith in
      let P : ℕ → Type 0 = λ j. get_or (set m i true) j false ≡ true in
      subst P (sym e) (get_or-set_same m i true false lt)
  | inr n ↦ get_or-set_other m i k true false n ∙ t
]

before_keeps : (m : List Bool) (lo k : ℕ) → k < length m → get_or m k false ≡ true → get_or (mark_before m lo) k false ≡ true
before_keeps m lo k h t = elim (cases_eq lo 0) [
  | inl e ↦ ap (λ l. get_or l k false) (before_none m lo e) ∙ t
  | inr n ↦ ap (λ l. get_or l k false) (before_some m lo n) ∙ set_keeps m (lo - 1) k h t
]

before_marks : (m : List Bool) (lo k : ℕ) → k + 1 ≡ lo → k < length m → get_or (mark_before m lo) k false ≡ true
before_marks m lo k e h =
    let n : lo ≢ 0 = omega arith in
    let f : lo - 1 ≡ k = omega arith in
    ap (λ l. get_or l k false) (before_some m lo n)
    ∙ subst (λ (j : ℕ). get_or (set m j true) k false ≡ true) (sym f) (get_or-set_same m k true false h)

before_other : (m : List Bool) (lo k : ℕ) → k + 1 ≢ lo → get_or (mark_before m lo) k false ≡ get_or m k false
before_other m lo k d = elim (cases_eq lo 0) [
  | inl e ↦ ap (λ l. get_or l k false) (before_none m lo e)
  | inr n ↦ let ne : k ≢ lo - 1 = omega arith in ap (λ l. get_or l k false) (before_some m lo n)
      ∙ get_or-set_other m (lo - 1) k true false ne
]

range_keeps : (m : List Bool) (lo hi k : ℕ) → k < length m → get_or m k false ≡ true → get_or (mark_range m lo hi) k false ≡ true
range_keeps m lo hi k h t = let e = length-mark_before m lo in set_keeps (mark_before m lo) hi k (omega arith) (before_keeps m lo k h t)

range_before : (m : List Bool) (lo hi k : ℕ) → k + 1 ≡ lo → k < length m → get_or (mark_range m lo hi) k false ≡ true
range_before m lo hi k e h = let f = length-mark_before m lo in set_keeps (mark_before m lo) hi k (omega arith) (before_marks m lo k e h)

range_end : (m : List Bool) (lo hi : ℕ) → hi < length m → get_or (mark_range m lo hi) hi false ≡ true
range_end m lo hi h = let f = length-mark_before m lo in get_or-set_same (mark_before m lo) hi true false (omega arith)

range_other : (m : List Bool) (lo hi k : ℕ) → k + 1 ≢ lo → k ≢ hi → get_or (mark_range m lo hi) k false ≡ get_or m k false
range_other m lo hi k d n = get_or-set_other (mark_before m lo) hi k true false n ∙ before_other m lo k d

-- neither mark of the range lies from a up to b
abbrev IsApart : ℕ → ℕ → ℕ × ℕ → Type 0
IsApart a b r = ((r.0 ≤ a) ⊎ (b < r.0)) × ((r.1 < a) ⊎ (b ≤ r.1))

not_both : (x : Bool) → x ≡ true → x ≡ false → ⊥
not_both x t f = cc

clear_before : (m : List Bool) (a b lo hi : ℕ) → b ≤ length m → IsClear (mark_range m lo hi) a b → IsClear m a b
clear_before m a b lo hi h u = λ k p q. elim (cases_Bool (get_or m k false)) [
  | inl t ↦ absurd (not_both _ (range_keeps m lo hi k (omega arith) t) (u k p q))
  | inr f ↦ f
]

clear_start : (m : List Bool) (a b lo hi : ℕ) → b ≤ length m → IsClear (mark_range m lo hi) a b → (lo ≤ a) ⊎ (b < lo)
clear_start m a b lo hi h u = elim (cases_lt a lo) [
  | inl p ↦ elim (cases_lt b lo) [
    | inl q ↦ inr q
    | inr q ↦ absurd (not_both _ (range_before m lo hi (lo - 1) (omega arith) (omega arith)) (u (lo - 1) (omega arith) (omega arith)))
  ]
  | inr p ↦ inl p
]

clear_end : (m : List Bool) (a b lo hi : ℕ) → b ≤ length m → IsClear (mark_range m lo hi) a b → (hi < a) ⊎ (b ≤ hi)
clear_end m a b lo hi h u = elim (cases_lt hi a) [
  | inl p ↦ inl p
  | inr p ↦ elim (cases_lt hi b) [
    | inl q ↦ absurd (not_both _ (range_end m lo hi (omega arith)) (u hi p q))
    | inr q ↦ inr q
  ]
]

clear_after : (m : List Bool) (a b : ℕ) (r : ℕ × ℕ) → IsClear m a b → IsApart a b r → IsClear (mark_range m r.0 r.1) a b
clear_after m a b r u s = λ k p q.
    let d : k + 1 ≢ r.0 = λ e. elim s.0 [ inl x ↦ omega arith | inr x ↦ omega arith ] in
    let n : k ≢ r.1 = λ e. elim s.1 [ inl x ↦ omega arith | inr x ↦ omega arith ] in
    range_other m r.0 r.1 k d n ∙ u k p q

-- ---- the marks of several ranges
recorded_clear : (m : List Bool) (a b : ℕ) (rs : List (ℕ × ℕ)) → b ≤ length m → IsClear m a b → All (IsApart a b) rs →
    IsClear (recorded m rs) a b
recorded_clear m a b [] h u s = u
recorded_clear m a b (r ∷ rs) h u s =
    let e = length-mark_range m r.0 r.1 in
    recorded_clear (mark_range m r.0 r.1) a b rs (omega arith) (clear_after m a b r u (All-head (IsApart a b) r rs s))
    (All-tail (IsApart a b) r rs s)

recorded_first : (m : List Bool) (a b : ℕ) (rs : List (ℕ × ℕ)) → b ≤ length m → IsClear (recorded m rs) a b → IsClear m a b
recorded_first m a b [] h u = u
recorded_first m a b (r ∷ rs) h u =
    let e = length-mark_range m r.0 r.1 in
    clear_before m a b r.0 r.1 h (recorded_first (mark_range m r.0 r.1) a b rs (omega arith) u)

recorded_apart : (m : List Bool) (a b : ℕ) (rs : List (ℕ × ℕ)) → b ≤ length m → IsClear (recorded m rs) a b → All (IsApart a b) rs
recorded_apart m a b [] h u = All-nil (IsApart a b)
recorded_apart m a b (r ∷ rs) h u =
    let e = length-mark_range m r.0 r.1 in
    let v = recorded_first (mark_range m r.0 r.1) a b rs (omega arith) u in
    All-cons (IsApart a b) r rs (clear_start m a b r.0 r.1 h v, clear_end m a b r.0 r.1 h v)
    (recorded_apart (mark_range m r.0 r.1) a b rs (omega arith) u)

pub length-recorded : (m : List Bool) (rs : List (ℕ × ℕ)) → length (recorded m rs) ≡ length m
length-recorded m [] = refl
length-recorded m (r ∷ rs) = length-recorded (mark_range m r.0 r.1) rs ∙ length-mark_range m r.0 r.1

-- ---- a range holds all or none
apart_holds : (a b : ℕ) (r : ℕ × ℕ) → a ≤ b → IsApart a b r → HoldsAllOrNone a b r
apart_holds a b r h s = elim s.0 [
  | inl p ↦ elim s.1 [
    | inl q ↦ inr (λ c k l i. omega (arith, i.1))
    | inr q ↦ inl (λ c k l. (omega arith, omega arith))
  ]
  | inr p ↦ inr (λ c k l i. omega (arith, i.0))
]

none_start : (a b : ℕ) (r : ℕ × ℕ) → a ≤ b → r.0 ≤ r.1 → ((c : ℕ) → a ≤ c → c ≤ b → IsIn r c → ⊥) → (r.0 ≤ a) ⊎ (b < r.0)
none_start a b r h o f = elim (cases_lt a r.0) [
  | inl p ↦ elim (cases_lt b r.0) [
    | inl q ↦ inr q
    | inr q ↦ absurd (f r.0 (omega arith) q (omega arith, o))
  ]
  | inr p ↦ inl p
]

none_end : (a b : ℕ) (r : ℕ × ℕ) → a ≤ b → r.0 ≤ r.1 → ((c : ℕ) → a ≤ c → c ≤ b → IsIn r c → ⊥) → (r.1 < a) ⊎ (b ≤ r.1)
none_end a b r h o f = elim (cases_lt r.1 a) [
  | inl p ↦ inl p
  | inr p ↦ elim (cases_lt r.1 b) [
    | inl q ↦ absurd (f r.1 p (omega arith) (o, omega arith))
    | inr q ↦ inr q
  ]
]

holds_apart : (a b : ℕ) (r : ℕ × ℕ) → a ≤ b → r.0 ≤ r.1 → HoldsAllOrNone a b r → IsApart a b r
holds_apart a b r h o s = elim s [
  | inl f ↦ (inl (f a (omega arith) h).0, inr (f b h (omega arith)).1)
  | inr f ↦ (none_start a b r h o f, none_end a b r h o f)
]

-- ---- the laws
unmarked_clear : (m : List Bool) (a b : ℕ) → b ≤ length m → IsUnmarked m → IsClear m a b
unmarked_clear m a b h u = λ k p q. u k (omega arith)

pub same_class_tells : (m : List Bool) (rs : List (ℕ × ℕ)) (a b : ℕ) → IsUnmarked m → a ≤ b → b < length m →
    marks_below (recorded m rs) a ≡ marks_below (recorded m rs) b → All (HoldsAllOrNone a b) rs
same_class_tells m rs a b u h k e =
    let len = length-recorded m rs in
    All-weaker (IsApart a b) (HoldsAllOrNone a b) (λ r s. apart_holds a b r h s) rs
    (recorded_apart m a b rs (omega arith) (same_clear (recorded m rs) a b (omega arith) e))

all_apart : (a b n : ℕ) (rs : List (ℕ × ℕ)) → a ≤ b → All (IsRangeBelow n) rs → All (HoldsAllOrNone a b) rs → All (IsApart a b) rs
all_apart a b n [] h o s = All-nil (IsApart a b)
all_apart a b n (r ∷ rs) h o s =
    All-cons (IsApart a b) r rs (holds_apart a b r h (All-head (IsRangeBelow n) r rs o).0 (All-head (HoldsAllOrNone a b) r rs s))
    (all_apart a b n rs h (All-tail (IsRangeBelow n) r rs o) (All-tail (HoldsAllOrNone a b) r rs s))

pub same_class_from_ranges : (m : List Bool) (rs : List (ℕ × ℕ)) (a b : ℕ) → IsUnmarked m → All (IsRangeBelow (length m)) rs → a ≤ b →
    b < length m →
    All (HoldsAllOrNone a b) rs → marks_below (recorded m rs) a ≡ marks_below (recorded m rs) b
same_class_from_ranges m rs a b u o h k s =
    let len = length-recorded m rs in
    clear_same (recorded m rs) a b h (omega arith)
    (recorded_clear m a b rs (omega arith) (unmarked_clear m a b (omega arith) u) (all_apart a b (length m) rs h o s))

-- if the bytes from a to b lie as a does in each range, each range holds all of them or none
alike_all_or_none : (a b : ℕ) (r : ℕ × ℕ) → a ≤ b → ((c : ℕ) → a ≤ c → c ≤ b → IsIn r a ↔ IsIn r c) → HoldsAllOrNone a b r
alike_all_or_none a b r h s = elim (cases_lt a r.0) [
  | inl p ↦ inr (λ c k l i. let j : IsIn r a = (s c k l).1 i in omega arith)
  | inr p ↦ elim (cases_lt r.1 a) [
    | inl q ↦ inr (λ c k l i. let j : IsIn r a = (s c k l).1 i in omega arith)
    | inr q ↦ inl (λ c k l. (s c k l).0 (p, q))
  ]
]

alike_all : (a b : ℕ) (rs : List (ℕ × ℕ)) → a ≤ b → ((c : ℕ) → a ≤ c → c ≤ b → All (λ r. IsIn r a ↔ IsIn r c) rs) →
    All (HoldsAllOrNone a b) rs
alike_all a b [] h s = All-nil (HoldsAllOrNone a b)
alike_all a b (r ∷ rs) h s =
    All-cons (HoldsAllOrNone a b) r rs
    (alike_all_or_none a b r h (λ c p q. All-head (λ x. IsIn x a ↔ IsIn x c) r rs (s c p q)))
    (alike_all a b rs h (λ c p q. All-tail (λ x. IsIn x a ↔ IsIn x c) r rs (s c p q)))

pub coarsest_forward : (m : List Bool) (rs : List (ℕ × ℕ)) (f : ℕ → ℕ) → IsUnmarked m → All (IsRangeBelow (length m)) rs →
    ((a b : ℕ) → a ≤ b → b < length m → f a ≤ f b) →
    ((a b : ℕ) → a < length m → b < length m → f a ≡ f b → All (λ r. IsIn r a ↔ IsIn r b) rs) →
    (a b : ℕ) → a ≤ b → b < length m → f a ≡ f b → marks_below (recorded m rs) a ≡ marks_below (recorded m rs) b
coarsest_forward m rs f u o rises alike a b h k e =
    same_class_from_ranges m rs a b u o h k (alike_all a b rs h (λ c p q.
    let x = rises a c p (omega arith) in
    let y = rises c b q k in
    let z : f a ≡ f c = omega arith in
    alike a c (omega arith) (omega arith) z))

pub coarsest : (m : List Bool) (rs : List (ℕ × ℕ)) (f : ℕ → ℕ) → IsUnmarked m → All (IsRangeBelow (length m)) rs →
    ((a b : ℕ) → a ≤ b → b < length m → f a ≤ f b) →
    ((a b : ℕ) → a < length m → b < length m → f a ≡ f b → All (λ r. IsIn r a ↔ IsIn r b) rs) →
    (a b : ℕ) → a < length m → b < length m → f a ≡ f b → marks_below (recorded m rs) a ≡ marks_below (recorded m rs) b
coarsest m rs f u o rises alike a b h k e = elim (cases_lt a b) [
  | inl p ↦ coarsest_forward m rs f u o rises alike a b (omega arith) k e
  | inr p ↦ sym (coarsest_forward m rs f u o rises alike b a p h (sym e))
]

-- ---- marks among others
pub own_marks : (m : List Bool) → HasMarks m m
own_marks m = record { len = refl; marked = λ k t. t }

-- a byte with a mark is one of those that exist
marked_inside : (m : List Bool) (k : ℕ) → get_or m k false ≡ true → k < length m
marked_inside [] k t = absurd (not_both false t refl)
marked_inside (x ∷ xs) zero t = omega arith
marked_inside (x ∷ xs) (suc k) t = let h = marked_inside xs k t in omega arith

finer_forward : (m others : List Bool) (a b : ℕ) → HasMarks m others → a ≤ b → b < length m → marks_below m a ≡ marks_below m b →
    marks_below others a ≡ marks_below others b
finer_forward m others a b has h l e =
    let clear : IsClear m a b = same_clear m a b (omega arith) e in
    let len = has.len in
    clear_same others a b h (omega arith) (λ k p q. elim (cases_Bool (get_or others k false)) [
      | inl t ↦ absurd (not_both _ (has.marked k t) (clear k p q))
      | inr f ↦ f
    ])

pub same_class_of_finer : (m others : List Bool) (a b : ℕ) → HasMarks m others → a < length m → b < length m →
    marks_below m a ≡ marks_below m b → marks_below others a ≡ marks_below others b
same_class_of_finer m others a b has k l e = elim (cases_lt a b) [
  | inl p ↦ finer_forward m others a b has (omega arith) l e
  | inr p ↦ sym (finer_forward m others b a has p k (sym e))
]

recorded_keeps : (m : List Bool) (rs : List (ℕ × ℕ)) (k : ℕ) → k < length m → get_or m k false ≡ true →
    get_or (recorded m rs) k false ≡ true
recorded_keeps m [] k h t = t
recorded_keeps m (r ∷ rs) k h t =
    let e = length-mark_range m r.0 r.1 in
    recorded_keeps (mark_range m r.0 r.1) rs k (omega arith) (range_keeps m r.0 r.1 k h t)

-- marks stay when ranges are marked
pub marks_stay : (m others : List Bool) (rs : List (ℕ × ℕ)) → HasMarks m others → HasMarks (recorded m rs) others
marks_stay m others rs has = record {
  len = length-recorded m rs ∙ has.len;
  marked = λ k t. recorded_keeps m rs k (marked_inside m k (has.marked k t)) (has.marked k t);
}
