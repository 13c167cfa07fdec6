-- Offsets strictly inside a spelling, and offsets between spellings.
use Rattle.std.proofs.Common.{◌≡◌, ℕ, zero, suc, ◌+◌, ◌-◌, ◌<◌, ◌≤◌, ◌⊎◌, inl, inr, true, false, List, [], ◌∷◌, ◌++◌, length, get_or, refl}
use Rattle.std.proofs.Common.{sym, ap, ap₂, subst, ◌∙◌, arith, length-append, append_assoc}
use Rattle.std.proofs.lemmas.List.{get_or_append_left, get_or-append_right}
use Rattle.std.proofs.lemmas.Bool.{cases_lt}
use Rattle.std.proofs.lemmas.Bool.Decides.{nat_tests}
use Rattle.search_core.specs.Utf8.{IsContinuation, Spells, IsValidText, IsSplit, is_boundary}
use Rattle.search_core.specs.Utf8.Spells.{from_0000, from_0080, from_0800, from_1000, from_d000, from_e000, from_10000, from_40000}
use Rattle.search_core.specs.Utf8.Spells.{from_100000}
use Rattle.search_core.specs.Utf8.IsValidText.{no_spelling, spelling_then}
use Rattle.search_core.proofs.DecodeLemmas.{Leads, spelling_leads, leads_some}
use Rattle.search_core.proofs.Utf8Lemmas.{heads_same}

-- the bytes of a spelling after its first
tail_two : (a b : ℕ) → IsContinuation b → (k : ℕ) → 0 < k → k < 2 → IsContinuation (get_or (a ∷ b ∷ []) k 0)
tail_two a b t zero h l = absurd (omega arith)
tail_two a b t (suc zero) h l = t
tail_two a b t (suc (suc k)) h l = absurd (omega arith)

tail_three : (a b d : ℕ) → IsContinuation b → IsContinuation d → (k : ℕ) → 0 < k → k < 3 → IsContinuation (get_or (a ∷ b ∷ d ∷ []) k 0)
tail_three a b d t u zero h l = absurd (omega arith)
tail_three a b d t u (suc zero) h l = t
tail_three a b d t u (suc (suc k)) h l = tail_two b d u (suc k) (omega arith) (omega arith)

tail_four : (a b d e : ℕ) → IsContinuation b → IsContinuation d → IsContinuation e → (k : ℕ) → 0 < k → k < 4 →
    IsContinuation (get_or (a ∷ b ∷ d ∷ e ∷ []) k 0)
tail_four a b d e t u w zero h l = absurd (omega arith)
tail_four a b d e t u w (suc zero) h l = t
tail_four a b d e t u w (suc (suc k)) h l = tail_three b d e u w (suc k) (omega arith) (omega arith)

abbrev Tails : List ℕ → Type 0
Tails s = (k : ℕ) → 0 < k → k < length s → IsContinuation (get_or s k 0)

pub spelling_tails : (c : ℕ) (s : List ℕ) → Spells c s → Tails s
spelling_tails c s (from_0000 a r e v) = subst Tails (sym e) (λ k h l. absurd (omega arith))
spelling_tails c s (from_0080 a b r t e v) = subst Tails (sym e) (tail_two a b t)
spelling_tails c s (from_0800 a b d r t u e v) = subst Tails (sym e) (tail_three a b d (omega arith, t.1) u)
spelling_tails c s (from_1000 a b d r t u e v) = subst Tails (sym e) (tail_three a b d t u)
spelling_tails c s (from_d000 a b d r t u e v) = subst Tails (sym e) (tail_three a b d (t.0, omega arith) u)
spelling_tails c s (from_e000 a b d r t u e v) = subst Tails (sym e) (tail_three a b d t u)
spelling_tails c s (from_10000 a b d f r t u w e v) = subst Tails (sym e) (tail_four a b d f (omega arith, t.1) u w)
spelling_tails c s (from_40000 a b d f r t u w e v) = subst Tails (sym e) (tail_four a b d f t u w)
spelling_tails c s (from_100000 a b d f r t u w e v) = subst Tails (sym e) (tail_four a b d f (t.0, omega arith) u w)

-- the first byte of a spelling, which continues none
lead_of : (a n : ℕ) → Leads a n → (a ≤ 0x7F) ⊎ (0xC0 ≤ a)
lead_of a n h = elim h [
  | inl one ↦ inl one.0
  | inr w ↦ elim w [ inl two ↦ inr (omega arith) | inr v ↦ elim v [ inl three ↦ inr (omega arith) | inr four ↦ inr (omega arith) ] ]
]

pub spelling_lead : (c : ℕ) (s : List ℕ) → Spells c s → (get_or s 0 0 ≤ 0x7F) ⊎ (0xC0 ≤ get_or s 0 0)
spelling_lead c s h = lead_of _ _ (spelling_leads c s h)

pub spelling_some : (c : ℕ) (s : List ℕ) → Spells c s → 0 < length s
spelling_some c s h = leads_some _ _ (spelling_leads c s h)

-- two ways to cut bytes around a spelling that an offset lies in are one
same_cut : (a : List ℕ) → IsValidText a → (b : List ℕ) → IsValidText b → (c d : ℕ) (s t x y : List ℕ) (i : ℕ) →
    Spells c s → Spells d t → a ++ (s ++ x) ≡ b ++ (t ++ y) →
    length a < i → i < length a + length s → length b < i → i < length b + length t → (a ≡ b) × (s ≡ t) × (x ≡ y)
same_cut a (no_spelling _ ea) b (no_spelling _ eb) c d s t x y i h k e la ha lb hb =
    let same : s ++ x ≡ t ++ y = ap (λ l. l ++ (s ++ x)) (sym ea) ∙ e ∙ ap (λ l. l ++ (t ++ y)) eb in
    let m = heads_same c d s t x y h k same in
    (ea ∙ sym eb, m.1, m.2)
same_cut a (no_spelling _ ea) b (spelling_then f u r _ g v eb) c d s t x y i h k e la ha lb hb =
    let same : s ++ x ≡ u ++ (r ++ (t ++ y)) = ap (λ l. l ++ (s ++ x)) (sym ea) ∙ e ∙ ap (λ l. l ++ (t ++ y)) eb
    ∙ append_assoc u r (t ++ y) in
    let m = heads_same c f s u x (r ++ (t ++ y)) h g same in
    absurd (omega (arith, ap length ea, ap length eb, length-append u r, ap length m.1))
same_cut a (spelling_then f u r _ g v ea) b (no_spelling _ eb) c d s t x y i h k e la ha lb hb =
    let same : u ++ (r ++ (s ++ x)) ≡ t ++ y = sym (ap (λ l. l ++ (s ++ x)) ea ∙ append_assoc u r (s ++ x)) ∙ e
    ∙ ap (λ l. l ++ (t ++ y)) eb in
    let m = heads_same f d u t (r ++ (s ++ x)) y g k same in
    absurd (omega (arith, ap length eb, ap length ea, length-append u r, ap length m.1))
same_cut a (spelling_then f u r _ g v ea) b (spelling_then p q w _ n z eb) c d s t x y i h k e la ha lb hb =
    let same : u ++ (r ++ (s ++ x)) ≡ q ++ (w ++ (t ++ y)) =
    sym (ap (λ l. l ++ (s ++ x)) ea ∙ append_assoc u r (s ++ x)) ∙ e ∙ ap (λ l. l ++ (t ++ y)) eb ∙ append_assoc q w (t ++ y) in
    let m = heads_same f p u q _ _ g n same in
    let na : length a ≡ length u + length r = ap length ea ∙ length-append u r in
    let nb : length b ≡ length q + length w = ap length eb ∙ length-append q w in
    let nu : length u ≡ length q = ap length m.1 in
    let o = same_cut r v w z c d s t x y (i - length u) h k m.2 (omega arith) (omega arith) (omega arith) (omega arith) in
    (ea ∙ ap₂ (λ (l k : List ℕ). l ++ k) m.1 o.0 ∙ sym eb, o.1, o.2)

pub same_split : (h : List ℕ) (i : ℕ) (p q : IsSplit h i) → (p.before ≡ q.before) × (p.spelling ≡ q.spelling) × (p.after ≡ q.after)
same_split h i p q =
    same_cut p.before p.before_valid q.before q.before_valid p.scalar q.scalar p.spelling q.spelling p.after q.after i
    p.spells q.spells (sym p.joined ∙ q.joined) p.above p.below q.above q.below

-- a split offset has a byte after it that continues a spelling
pub split_continues : (h : List ℕ) (i : ℕ) → IsSplit h i → (i < length h) × IsContinuation (get_or h i 0)
split_continues h i p =
    let n : length h ≡ length p.before + length (p.spelling ++ p.after) =
    ap length p.joined ∙ length-append p.before (p.spelling ++ p.after) in
    let m = length-append p.spelling p.after in
    let k : i - length p.before < length p.spelling = omega (arith, p.above, p.below) in
    let e : get_or h i 0 ≡ get_or p.spelling (i - length p.before) 0 =
    ap (λ l. get_or l i 0) p.joined ∙ get_or-append_right p.before (p.spelling
    ++ p.after) (length p.before) i 0 refl (omega (arith, p.above))
    ∙ get_or_append_left p.spelling p.after 0 (i - length p.before) k in (
      omega (arith, p.above, p.below),
      subst IsContinuation (sym e) (spelling_tails p.scalar p.spelling p.spells (i - length p.before)
          (omega (arith, p.above)) k),
    )

no_boundary : (h : List ℕ) (i : ℕ) → i < length h → IsContinuation (get_or h i 0) → is_boundary h i ≡ false
no_boundary h i l t = grind (arith, nat_tests)

pub split_is_no_boundary : (h : List ℕ) (i : ℕ) → IsSplit h i → is_boundary h i ≡ false
split_is_no_boundary h i p = let q = split_continues h i p in no_boundary h i q.0 q.1

-- the offset is the end, or in front of a byte that continues no spelling
abbrev Bounds : List ℕ → ℕ → Type 0
Bounds h i = (i ≡ length h) ⊎ ((i < length h) × ((get_or h i 0 ≤ 0x7F) ⊎ (0xC0 ≤ get_or h i 0)))

boundary_of : (h : List ℕ) (i : ℕ) → Bounds h i → is_boundary h i ≡ true
boundary_of h i b = grind (arith, nat_tests)

-- at the start of a spelling, inside it, and after it
bounds_at_start : (h s rest : List ℕ) (c : ℕ) → Spells c s → h ≡ s ++ rest → Bounds h 0
bounds_at_start h s rest c k e =
    let some = spelling_some c s k in
    let n : length h ≡ length s + length rest = ap length e ∙ length-append s rest in
    let same : get_or s 0 0 ≡ get_or h 0 0 = sym (ap (λ l. get_or l 0 0) e ∙ get_or_append_left s rest 0 0 some) in
    let P : ℕ → Type 0 = λ b. (b ≤ 0x7F) ⊎ (0xC0 ≤ b) in
    inr (omega arith, subst P same (spelling_lead c s k))

bounds_behind : (h s rest : List ℕ) (i : ℕ) → h ≡ s ++ rest → length s ≤ i → Bounds rest (i - length s) → Bounds h i
bounds_behind h s rest i e l b =
    let n : length h ≡ length s + length rest = ap length e ∙ length-append s rest in
    let same : get_or rest (i - length s) 0 ≡ get_or h i 0 = sym (ap (λ l. get_or l i 0) e
    ∙ get_or-append_right s rest (length s) i 0 refl l) in
    let P : ℕ → Type 0 = λ b. (b ≤ 0x7F) ⊎ (0xC0 ≤ b) in
    elim b [ inl x ↦ inl (omega arith) | inr x ↦ inr (omega arith, subst P same x.1) ]

split_inside : (h s rest : List ℕ) (c i : ℕ) → Spells c s → IsValidText rest → h ≡ s ++ rest → 0 < i → i < length s → IsSplit h i
split_inside h s rest c i k v e low high = record {
  before = [];
  spelling = s;
  after = rest;
  scalar = c;
  before_valid = no_spelling [] refl;
  spells = k;
  after_valid = v;
  joined = e;
  above = low;
  below = omega arith;
}

split_behind : (h s rest : List ℕ) (c i : ℕ) → Spells c s → h ≡ s ++ rest → length s ≤ i → IsSplit rest (i - length s) → IsSplit h i
split_behind h s rest c i k e l p = record {
  before = s ++ p.before;
  spelling = p.spelling;
  after = p.after;
  scalar = p.scalar;
  before_valid = spelling_then c s p.before _ k p.before_valid refl;
  spells = p.spells;
  after_valid = p.after_valid;
  joined = e ∙ ap (λ x. s ++ x) p.joined ∙ sym (append_assoc s p.before (p.spelling ++ p.after));
  above = omega (arith, length-append s p.before, p.above);
  below = omega (arith, length-append s p.before, p.below);
}

bounds_or_split : (h : List ℕ) → IsValidText h → (i : ℕ) → i ≤ length h → Bounds h i ⊎ IsSplit h i
bounds_or_split h (no_spelling _ e) i l = inl (inl (omega (arith, ap length e)))
bounds_or_split h (spelling_then c s rest _ k v e) i l =
    let n : length h ≡ length s + length rest = ap length e ∙ length-append s rest in
    elim (cases_lt i (length s)) [
      | inl inside ↦ elim (cases_lt 0 i) [
        | inl low ↦ inr (split_inside h s rest c i k v e low inside)
        | inr none ↦ let z : 0 ≡ i = omega arith in inl (subst (Bounds h) z (bounds_at_start h s rest c k e))
      ]
      | inr behind ↦ elim (bounds_or_split rest v (i - length s) (omega arith)) [
        | inl b ↦ inl (bounds_behind h s rest i e behind b)
        | inr p ↦ inr (split_behind h s rest c i k e behind p)
      ]
    ]

pub boundary_or_split : (h : List ℕ) (i : ℕ) → IsValidText h → i ≤ length h → (is_boundary h i ≡ true) ⊎ IsSplit h i
boundary_or_split h i v l = elim (bounds_or_split h v i l) [ inl b ↦ inl (boundary_of h i b) | inr p ↦ inr p ]
