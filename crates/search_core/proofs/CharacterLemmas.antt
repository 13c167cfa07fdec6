-- The characters that are computed from bytes, compared with the spellings at their offsets.
use Rattle.std.proofs.Common.{◌≡◌, ℕ, zero, suc, ◌+◌, ◌-◌, ◌<◌, ◌≤◌, ◌⊎◌, inl, inr, Bool, true, false, cond, ◌&&◌, List, [], ◌∷◌}
use Rattle.std.proofs.Common.{length, get_or, take, drop, Option, Some, None, Result, Ok, Err, refl, sym, ap, subst, ◌∙◌, arith, lit<}
use Rattle.std.proofs.Common.{length-append, length-drop, length-take-le}
use Rattle.std.specs.Int.{IsInRange, is_in_range}
use Rattle.std.specs.Option.{option_or, option_map, ok_or}
use Rattle.std.proofs.lemmas.Bool.{and_parts, and_from, cond-true, cond-false, leb-true, ltb-true, le-leb, lt-leb, lt-ltb, cases_lt}
use Rattle.std.proofs.lemmas.Bool.Decides.{nat_tests}
use Rattle.std.proofs.lemmas.List.{get_or-append_right, get_or-drop, get_or-take, get_or_past}
use Rattle.std.proofs.lemmas.Option.{cond_some, none-some, slice_get-get_or, slice_get_past}
use Rattle.search_core.specs.Text.{byte_at, byte_before}
use Rattle.search_core.specs.Utf8.{IsContinuation, scalar_of_two, scalar_of_three, scalar_of_four, second_of_three, second_of_four, Spells}
use Rattle.search_core.specs.Utf8.{SpellsFirst, SpellsLast, Decodes, DecodesLast}
use Rattle.search_core.specs.Utf8.Spells.{from_0000, from_0080, from_0800, from_1000, from_d000, from_e000, from_10000, from_40000}
use Rattle.search_core.specs.Utf8.Spells.{from_100000}
use Rattle.search_core.specs.Characters.{one_byte, two_bytes, three_bytes, four_bytes, character_at, ending_at, character_before}
use Rattle.search_core.specs.Characters.{spelling_len, read_at, read_before}
use Rattle.search_core.proofs.Utf8Lemmas.{heads_same, one_scalar}
use Rattle.search_core.proofs.DecodeLemmas.{two_spell, three_spell, four_spell, same_first, front_two, front_three, front_four, read_one}
use Rattle.search_core.proofs.DecodeLemmas.{in_range, back, put_one, put_two, put_three, put_four}
use Rattle.search_core.proofs.SplitLemmas.{spelling_some, spelling_tails}
use Rattle.search_core.proofs.CutLemmas.{first_decodes, last_decodes, lasts_same}

-- ---- the lengths of spellings
is_three : (c : ℕ) → 0x800 ≤ c → c ≤ 0xFFFF → spelling_len c ≡ 3
is_three c low high =
    cond-false _ _ _ (lt-leb c 0x7F (omega arith)) ∙ cond-false _ _ _ (lt-leb c 0x7FF (omega arith))
    ∙ cond-true _ _ _ (le-leb c 0xFFFF high)

is_four : (c : ℕ) → 0x10000 ≤ c → spelling_len c ≡ 4
is_four c low =
    cond-false _ _ _ (lt-leb c 0x7F (omega arith)) ∙ cond-false _ _ _ (lt-leb c 0x7FF (omega arith))
    ∙ cond-false _ _ _ (lt-leb c 0xFFFF (omega arith))

pub spelling_has_len : (c : ℕ) (s : List ℕ) → Spells c s → length s ≡ spelling_len c
spelling_has_len c s (from_0000 a r e v) = ap length e ∙ sym (cond-true _ _ _ (le-leb c 0x7F (omega arith)))
spelling_has_len c s (from_0080 a b r t e v) =
    ap length e ∙ sym (cond-false _ _ _ (lt-leb c 0x7F (omega arith)) ∙ cond-true _ _ _ (le-leb c 0x7FF (omega arith)))
spelling_has_len c s (from_0800 a b d r t u e v) = ap length e ∙ sym (is_three c (omega arith) (omega arith))
spelling_has_len c s (from_1000 a b d r t u e v) = ap length e ∙ sym (is_three c (omega arith) (omega arith))
spelling_has_len c s (from_d000 a b d r t u e v) = ap length e ∙ sym (is_three c (omega arith) (omega arith))
spelling_has_len c s (from_e000 a b d r t u e v) = ap length e ∙ sym (is_three c (omega arith) (omega arith))
spelling_has_len c s (from_10000 a b d f r t u w e v) = ap length e ∙ sym (is_four c (omega arith))
spelling_has_len c s (from_40000 a b d f r t u w e v) = ap length e ∙ sym (is_four c (omega arith))
spelling_has_len c s (from_100000 a b d f r t u w e v) = ap length e ∙ sym (is_four c (omega arith))

-- ---- what bytes of each length spell, as a value of the bytes alone
abbrev two_value : ℕ → ℕ → Option ℕ
two_value a b = cond (is_in_range 0xC2 0xDF a && is_in_range 0x80 0xBF b) (Some (scalar_of_two a b)) None

abbrev three_value : ℕ → ℕ → ℕ → Option ℕ
three_value a b d = cond (second_of_three a b && is_in_range 0x80 0xBF d) (Some (scalar_of_three a b d)) None

abbrev four_value : ℕ → ℕ → ℕ → ℕ → Option ℕ
four_value a b d e = cond (second_of_four a b && is_in_range 0x80 0xBF d && is_in_range 0x80 0xBF e) (Some (scalar_of_four a b d e)) None

two_value_spells : (a b c : ℕ) → two_value a b ≡ Some c → Spells c (a ∷ b ∷ [])
two_value_spells a b c e =
    let p = cond_some _ _ _ e in
    let q = and_parts _ _ p.0 in
    let r = in_range _ _ a q.0 in
    subst (λ x. Spells x (a ∷ b ∷ [])) p.1 (two_spell a b r.0 r.1 q.1).0

three_value_spells : (a b d c : ℕ) → three_value a b d ≡ Some c → Spells c (a ∷ b ∷ d ∷ [])
three_value_spells a b d c e =
    let p = cond_some _ _ _ e in
    let q = and_parts _ _ p.0 in
    subst (λ x. Spells x (a ∷ b ∷ d ∷ [])) p.1 (three_spell a b d q.0 q.1).0

four_value_spells : (a b d f c : ℕ) → four_value a b d f ≡ Some c → Spells c (a ∷ b ∷ d ∷ f ∷ [])
four_value_spells a b d f c e =
    let p = cond_some _ _ _ e in
    let q = and_parts _ _ p.0 in
    let r = and_parts _ _ q.0 in
    subst (λ x. Spells x (a ∷ b ∷ d ∷ f ∷ [])) p.1 (four_spell a b d f r.0 r.1 q.1).0

-- the rows of each length, with the bytes of the list itself
abbrev Row : ℕ → List ℕ → Type 0
Row c s =
    ((length s ≡ 1) × (get_or s 0 0 ≤ 0x7F) × (c ≡ get_or s 0 0))
    ⊎ (((length s ≡ 2) × (is_in_range 0xC2 0xDF (get_or s 0 0) && is_in_range 0x80 0xBF (get_or s 1 0) ≡ true) ×
    (c ≡ scalar_of_two (get_or s 0 0) (get_or s 1 0)))
    ⊎ (((length s ≡ 3) × (second_of_three (get_or s 0 0) (get_or s 1 0) && is_in_range 0x80 0xBF (get_or s 2 0) ≡ true) ×
    (c ≡ scalar_of_three (get_or s 0 0) (get_or s 1 0) (get_or s 2 0)))
    ⊎ ((length s ≡ 4) × (second_of_four (get_or s 0 0) (get_or s 1 0) && is_in_range 0x80 0xBF (get_or s 2 0)
    && is_in_range 0x80 0xBF (get_or s 3 0) ≡ true)
    × (c ≡ scalar_of_four (get_or s 0 0) (get_or s 1 0) (get_or s 2 0) (get_or s 3 0)))))

two_test : (a b : ℕ) → IsInRange 0xC2 0xDF a → IsContinuation b → is_in_range 0xC2 0xDF a && is_in_range 0x80 0xBF b ≡ true
two_test a b r t = grind (arith, nat_tests)

three_test : (a b d : ℕ) →
    (((a ≡ 0xE0) × IsInRange 0xA0 0xBF b) ⊎ ((IsInRange 0xE1 0xEC a × IsContinuation b) ⊎
    (((a ≡ 0xED) × IsInRange 0x80 0x9F b) ⊎ (IsInRange 0xEE 0xEF a × IsContinuation b)))) →
    IsContinuation d → second_of_three a b && is_in_range 0x80 0xBF d ≡ true
three_test a b d h t = grind (arith, nat_tests)

four_test : (a b d e : ℕ) →
    (((a ≡ 0xF0) × IsInRange 0x90 0xBF b) ⊎ ((IsInRange 0xF1 0xF3 a × IsContinuation b) ⊎ ((a ≡ 0xF4) × IsInRange 0x80 0x8F b))) →
    IsContinuation d → IsContinuation e → second_of_four a b && is_in_range 0x80 0xBF d && is_in_range 0x80 0xBF e ≡ true
four_test a b d e h t u = grind (arith, nat_tests)

row_by : (c : ℕ) (s t : List ℕ) → s ≡ t → Row c t → Row c s
row_by c s t e r = subst (Row c) (sym e) r

row_of : (c : ℕ) (s : List ℕ) → Spells c s → Row c s
row_of c s (from_0000 a r e v) = row_by c s _ e (inl (refl, r.1, v))
row_of c s (from_0080 a b r t e v) = row_by c s _ e (inr (inl (refl, two_test a b r t, v)))
row_of c s (from_0800 a b d r t u e v) = row_by c s _ e (inr (inr (inl (refl, three_test a b d (inl (r, t)) u, v))))
row_of c s (from_1000 a b d r t u e v) = row_by c s _ e (inr (inr (inl (refl, three_test a b d (inr (inl (r, t))) u, v))))
row_of c s (from_d000 a b d r t u e v) = row_by c s _ e (inr (inr (inl (refl, three_test a b d (inr (inr (inl (r, t)))) u, v))))
row_of c s (from_e000 a b d r t u e v) = row_by c s _ e (inr (inr (inl (refl, three_test a b d (inr (inr (inr (r, t)))) u, v))))
row_of c s (from_10000 a b d f r t u w e v) = row_by c s _ e (inr (inr (inr (refl, four_test a b d f (inl (r, t)) u w, v))))
row_of c s (from_40000 a b d f r t u w e v) = row_by c s _ e (inr (inr (inr (refl, four_test a b d f (inr (inl (r, t))) u w, v))))
row_of c s (from_100000 a b d f r t u w e v) = row_by c s _ e (inr (inr (inr (refl, four_test a b d f (inr (inr (r, t))) u w, v))))

-- ---- which of four values was taken
taken : (w x y z : Option ℕ) (c : ℕ) → option_or w (option_or x (option_or y z)) ≡ Some c → (w ≡ Some c) ⊎
    ((x ≡ Some c) ⊎ ((y ≡ Some c) ⊎ (z ≡ Some c)))
taken (Some a) x y z c e = inl e
taken None (Some a) y z c e = inr (inl e)
taken None None (Some a) z c e = inr (inr (inl e))
taken None None None z c e = inr (inr (inr e))

-- if any has a value, one is taken
takes : (w x y z : Option ℕ) (c : ℕ) → (w ≡ Some c) ⊎ ((x ≡ Some c) ⊎ ((y ≡ Some c) ⊎ (z ≡ Some c))) →
    (d : ℕ) × (option_or w (option_or x (option_or y z)) ≡ Some d)
takes (Some a) x y z c e = (a, refl)
takes None (Some a) y z c e = (a, refl)
takes None None (Some a) z c e = (a, refl)
takes None None None z c e = elim e [
  | inl h ↦ absurd (none-some c h)
  | inr h ↦ elim h [ inl k ↦ absurd (none-some c k) | inr k ↦ elim k [ inl l ↦ absurd (none-some c l) | inr l ↦ (c, l) ] ]
]

some_same : (r : Option ℕ) (c d : ℕ) → r ≡ Some d → c ≡ d → r ≡ Some c
some_same r c d e s = e ∙ ap (λ x. Some x) (sym s)

-- ---- the bytes at an offset
module _ (h : List ℕ) (k c : ℕ) where
  first_of_one : one_byte h k ≡ Some c → (k < length h) × (get_or h k 0 ≤ 0x7F) × (get_or h k 0 ≡ c)
  first_of_one e =
      let p = cond_some _ _ _ e in
      let q = and_parts _ _ p.0 in
      (ltb-true _ _ q.0, leb-true _ _ q.1, p.1)

  one_of_first : k < length h → get_or h k 0 ≤ 0x7F → c ≡ get_or h k 0 → one_byte h k ≡ Some c
  one_of_first l low e = cond-true _ _ _ (and_from _ _ (lt-ltb k (length h) l) (le-leb _ _ low)) ∙ ap (λ x. Some x) (sym e)

some_byte : (h : List ℕ) (k : ℕ) → 0 < get_or h k 0 → k < length h
some_byte h k some = elim (cases_lt k (length h)) [ inl l ↦ l | inr past ↦ absurd (omega (arith, get_or_past h k 0 past)) ]

-- the byte with index j of a list that begins at offset k
abbrev IsAt : List ℕ → ℕ → List ℕ → Type 0
IsAt h k s = (k + length s ≤ length h) × ((j : ℕ) → j < length s → get_or s j 0 ≡ get_or h (k + j) 0)

-- a spelling at the offset gives the value of its length
module _ (h : List ℕ) (k c : ℕ) (s : List ℕ) (at : IsAt h k s) where
  first_byte : 0 < length s → get_or s 0 0 ≡ get_or h k 0
  first_byte l = at.1 0 l ∙ ap (λ j. get_or h j 0) (omega arith)

  abbrev IsTold : Type 0
  IsTold =
      ((length s ≡ 1) × (one_byte h k ≡ Some c)) ⊎ (((length s ≡ 2) × (two_bytes h k ≡ Some c)) ⊎
      (((length s ≡ 3) × (three_bytes h k ≡ Some c)) ⊎ ((length s ≡ 4) × (four_bytes h k ≡ Some c))))

  reported : Row c s → IsTold
  reported r = elim r [
    | inl n ↦ let b0 = first_byte (omega arith) in inl (n.0, one_of_first h k c (omega arith) (omega arith) (n.2 ∙ b0))
    | inr r ↦ elim r [
      | inl n ↦
          let b0 = first_byte (omega arith) in
          let b1 = at.1 1 (omega arith) in
          inr (inl (
            n.0,
            rw (b0, b1) at (cond-true _ (Some (scalar_of_two (get_or s 0 0) (get_or s 1 0))) None n.1
                ∙ ap (λ x. Some x) (sym n.2)),
          ))
      | inr r ↦ elim r [
        | inl n ↦
            let b0 = first_byte (omega arith) in
            let b1 = at.1 1 (omega arith) in
            let b2 = at.1 2 (omega arith) in
            inr (inr (inl (
              n.0,
              rw (b0, b1, b2) at (cond-true _ (Some (scalar_of_three (get_or s 0 0) (get_or s 1 0) (get_or s 2 0))) None
                  n.1 ∙ ap (λ x. Some x) (sym n.2)),
            )))
        | inr n ↦
            let b0 = first_byte (omega arith) in
            let b1 = at.1 1 (omega arith) in
            let b2 = at.1 2 (omega arith) in
            let b3 = at.1 3 (omega arith) in
            inr (inr (inr (
              n.0,
              rw (b0, b1, b2, b3) at (cond-true _ (Some
                  (scalar_of_four (get_or s 0 0) (get_or s 1 0) (get_or s 2 0) (get_or s 3 0))) None n.1 ∙ ap (λ x. Some x) (sym n.2)),
            )))
      ]
    ]
  ]

-- each value is of a spelling that begins there
module _ (h : List ℕ) (i c : ℕ) where
  behind_first : (j : ℕ) → get_or (drop i h) j 0 ≡ get_or h (i + j) 0
  behind_first j = get_or-drop i h j 0

  behind_here : get_or (drop i h) 0 0 ≡ get_or h i 0
  behind_here = behind_first 0 ∙ ap (λ j. get_or h j 0) (omega arith)

  one_begins : one_byte h i ≡ Some c → SpellsFirst c (drop i h)
  one_begins e =
      let p = first_of_one h i c e in
      let n = length-drop i h in
      let b = behind_here in
      subst (λ x. SpellsFirst x (drop i h)) (b ∙ p.2) (read_one (drop i h) (omega arith) (omega arith))

  two_begins : two_bytes h i ≡ Some c → SpellsFirst c (drop i h)
  two_begins e =
      let s = two_value_spells _ _ c e in
      let t : IsContinuation (get_or h (i + 1) 0) = spelling_tails c _ s 1 (lit< tt) (lit< tt) in
      let l = some_byte h (i + 1) (omega arith) in
      let n = length-drop i h in
      record {
        spelling = get_or (drop i h) 0 0 ∷ get_or (drop i h) 1 0 ∷ [];
        rest = drop 2 (drop i h);
        spells = rw (behind_here, behind_first 1) s;
        joined = front_two (drop i h) (omega arith);
      }

  three_begins : three_bytes h i ≡ Some c → SpellsFirst c (drop i h)
  three_begins e =
      let s = three_value_spells _ _ _ c e in
      let t : IsContinuation (get_or h (i + 2) 0) = spelling_tails c _ s 2 (lit< tt) (lit< tt) in
      let l = some_byte h (i + 2) (omega arith) in
      let n = length-drop i h in
      record {
        spelling = get_or (drop i h) 0 0 ∷ get_or (drop i h) 1 0 ∷ get_or (drop i h) 2 0 ∷ [];
        rest = drop 3 (drop i h);
        spells = rw (behind_here, behind_first 1, behind_first 2) s;
        joined = front_three (drop i h) (omega arith);
      }

  four_begins : four_bytes h i ≡ Some c → SpellsFirst c (drop i h)
  four_begins e =
      let s = four_value_spells _ _ _ _ c e in
      let t : IsContinuation (get_or h (i + 3) 0) = spelling_tails c _ s 3 (lit< tt) (lit< tt) in
      let l = some_byte h (i + 3) (omega arith) in
      let n = length-drop i h in
      record {
        spelling = get_or (drop i h) 0 0 ∷ get_or (drop i h) 1 0 ∷ get_or (drop i h) 2 0 ∷ get_or (drop i h) 3 0 ∷ [];
        rest = drop 4 (drop i h);
        spells = rw (behind_here, behind_first 1, behind_first 2, behind_first 3) s;
        joined =
            front_four (drop i h) (omega arith);
      }

  pub character_begins : character_at h i ≡ Some c → SpellsFirst c (drop i h)
  character_begins e = elim (taken _ _ _ _ c e) [
    | inl o ↦ one_begins o
    | inr o ↦ elim o [ inl p ↦ two_begins p | inr p ↦ elim p [ inl q ↦ three_begins q | inr q ↦ four_begins q ] ]
  ]

  begun_stands : (f : SpellsFirst c (drop i h)) → IsAt h i f.spelling
  begun_stands f =
      let some = spelling_some c f.spelling f.spells in (
        omega (arith, length-drop i h, ap length f.joined, length-append f.spelling f.rest),
        λ j l. same_first (drop i h) f.spelling f.rest j f.joined l ∙ behind_first j,
      )

pub begun_character : (h : List ℕ) (i c : ℕ) → SpellsFirst c (drop i h) → character_at h i ≡ Some c
begun_character h i c f =
    let d = takes (one_byte h i) (two_bytes h i) (three_bytes h i) (four_bytes h i) c
    (elim (reported h i c f.spelling (begun_stands h i c f) (row_of c f.spelling f.spells)) [
      | inl o ↦ inl o.1
      | inr o ↦ elim o [ inl p ↦ inr (inl p.1) | inr p ↦ elim p [ inl q ↦ inr (inr (inl q.1)) | inr q ↦ inr (inr (inr q.1)) ] ]
    ]) in
    let g = character_begins h i d.0 d.1 in
    some_same _ c d.0 d.1 (heads_same c d.0 f.spelling g.spelling f.rest g.rest f.spells g.spells (sym f.joined ∙ g.joined)).0

-- each value that ends at the offset is of a spelling that ends there
ended : (t : Bool) (x : Option ℕ) (c : ℕ) → cond t x None ≡ Some c → (t ≡ true) × (x ≡ Some c)
ended true x c e = (refl, e)
ended false x c e = absurd (none-some c e)

module _ (h : List ℕ) (i c : ℕ) (fits : i ≤ length h) where
  before_back : (k j : ℕ) → 0 < k → k ≤ i → j ≡ i - k → back (take i h) k ≡ get_or h j 0
  before_back k j some l e =
      ap (λ n. get_or (take i h) (n - k) 0) (length-take-le i h fits) ∙ ap (λ m. get_or (take i h) m 0) (sym e)
      ∙ get_or-take i h j 0 (omega arith)

  one_ends : ending_at 1 one_byte h i ≡ Some c → SpellsLast c (take i h)
  one_ends e =
      let p = ended _ _ c e in
      let l = leb-true 1 i p.0 in
      let q = first_of_one h (i - 1) c p.1 in
      let n = length-take-le i h fits in
      let b = before_back 1 (i - 1) (omega arith) l refl in
      subst (λ x. SpellsLast x (take i h)) (b ∙ q.2) (put_one (take i h) (omega arith) (omega arith))

  two_ends : ending_at 2 two_bytes h i ≡ Some c → SpellsLast c (take i h)
  two_ends e =
      let p = ended _ _ c e in
      let l = leb-true 2 i p.0 in
      let n = length-take-le i h fits in
      let b2 = before_back 2 (i - 2) (omega arith) l refl in
      let b1 = before_back 1 (i - 2 + 1) (omega arith) (omega arith) (omega arith) in
      put_two (take i h) c (omega arith) (rw (b2, b1) (two_value_spells _ _ c p.1))

  three_ends : ending_at 3 three_bytes h i ≡ Some c → SpellsLast c (take i h)
  three_ends e =
      let p = ended _ _ c e in
      let l = leb-true 3 i p.0 in
      let n = length-take-le i h fits in
      let b3 = before_back 3 (i - 3) (omega arith) l refl in
      let b2 = before_back 2 (i - 3 + 1) (omega arith) (omega arith) (omega arith) in
      let b1 = before_back 1 (i - 3 + 2) (omega arith) (omega arith) (omega arith) in
      put_three (take i h) c (omega arith) (rw (b3, b2, b1) (three_value_spells _ _ _ c p.1))

  four_ends : ending_at 4 four_bytes h i ≡ Some c → SpellsLast c (take i h)
  four_ends e =
      let p = ended _ _ c e in
      let l = leb-true 4 i p.0 in
      let n = length-take-le i h fits in
      let b4 = before_back 4 (i - 4) (omega arith) l refl in
      let b3 = before_back 3 (i - 4 + 1) (omega arith) (omega arith) (omega arith) in
      let b2 = before_back 2 (i - 4 + 2) (omega arith) (omega arith) (omega arith) in
      let b1 = before_back 1 (i - 4 + 3) (omega arith) (omega arith) (omega arith) in
      put_four (take i h) c (omega arith) (rw (b4, b3, b2, b1) (four_value_spells _ _ _ _ c p.1))

pub character_ends : (h : List ℕ) (i c : ℕ) → i ≤ length h → character_before h i ≡ Some c → SpellsLast c (take i h)
character_ends h i c fits e = elim (taken _ _ _ _ c e) [
  | inl o ↦ one_ends h i c fits o
  | inr o ↦ elim o [ inl p ↦ two_ends h i c fits p | inr p ↦ elim p [ inl q ↦ three_ends h i c fits q | inr q ↦ four_ends h i c fits q ] ]
]

ended_stands : (h : List ℕ) (i c : ℕ) → i ≤ length h → (f : SpellsLast c (take i h)) → (length f.spelling ≤ i) ×
    IsAt h (i - length f.spelling) f.spelling
ended_stands h i c fits f =
    let n : i ≡ length f.front + length f.spelling = sym (length-take-le i h fits) ∙ ap length f.joined
    ∙ length-append f.front f.spelling in (
      omega arith,
      (
        omega arith,
        λ j l.
            sym (ap (λ x. get_or x (i - length f.spelling + j) 0) f.joined
            ∙ get_or-append_right f.front f.spelling (length f.front) (i - length f.spelling + j) 0 refl (omega arith)
            ∙ ap (λ m. get_or f.spelling m 0) (omega arith))
            ∙ get_or-take i h (i - length f.spelling + j) 0 (omega arith),
      ),
    )

-- a value at the offset where a spelling of n bytes begins is one that ends after it
ends_with : (h : List ℕ) (i c m n : ℕ) (spelled : List ℕ → ℕ → Option ℕ) → m ≡ n → m ≤ i → spelled h (i - m) ≡ Some c →
    ending_at n spelled h i ≡ Some c
ends_with h i c m n spelled e l v = cond-true _ _ _ (le-leb n i (omega arith)) ∙ ap (λ k. spelled h (i - k)) (sym e) ∙ v

pub ended_character : (h : List ℕ) (i c : ℕ) → i ≤ length h → SpellsLast c (take i h) → character_before h i ≡ Some c
ended_character h i c fits f =
    let at = ended_stands h i c fits f in
    let d = takes (ending_at 1 one_byte h i) (ending_at 2 two_bytes h i) (ending_at 3 three_bytes h i) (ending_at 4 four_bytes h i) c
    (elim (reported h (i - length f.spelling) c f.spelling at.1 (row_of c f.spelling f.spells)) [
      | inl o ↦ inl (ends_with h i c _ 1 one_byte o.0 at.0 o.1)
      | inr o ↦ elim o [
        | inl p ↦ inr (inl (ends_with h i c _ 2 two_bytes p.0 at.0 p.1))
        | inr p ↦ elim p [
          | inl q ↦ inr (inr (inl (ends_with h i c _ 3 three_bytes q.0 at.0 q.1)))
          | inr q ↦
              inr (inr (inr (ends_with h i c _ 4 four_bytes q.0 at.0 q.1)))
        ]
      ]
    ]) in
    let g = character_ends h i d.0 fits d.1 in
    let same = lasts_same (take i h) f.front g.front f.spelling g.spelling c d.0 f.spells g.spells f.joined g.joined in
    some_same _ c d.0 d.1 (one_scalar c d.0 f.spelling f.spells (subst (Spells d.0) (sym same) g.spells))

-- ---- what is read at an offset
first_read_once : (bytes : List ℕ) (r s : Option (Result ℕ ℕ)) → Decodes bytes s → Decodes bytes r → r ≡ s
first_read_once bytes r (Some (Ok c)) f d = first_decodes c f.spelling f.rest r f.spells (subst (λ x. Decodes x r) f.joined d)
first_read_once bytes None None e d = refl
first_read_once bytes (Some (Ok c)) None e d = sym (first_decodes c d.spelling d.rest None d.spells
    (subst (λ x. Decodes x None) d.joined e))
first_read_once bytes (Some (Err b)) None e d = absurd (none-some b (ap (λ x. byte_at x 0) (sym e) ∙ d.0))
first_read_once bytes None (Some (Err b)) e d = absurd (none-some b (ap (λ x. byte_at x 0) (sym d) ∙ e.0))
first_read_once bytes (Some (Ok c)) (Some (Err b)) e d = absurd (e.1 c d)
first_read_once bytes (Some (Err a)) (Some (Err b)) e d = ap (option_map (λ x. Err x)) (sym d.0 ∙ e.0)

last_read_once : (bytes : List ℕ) (r s : Option (Result ℕ ℕ)) → DecodesLast bytes s → DecodesLast bytes r → r ≡ s
last_read_once bytes r (Some (Ok c)) f d = last_decodes c f.front f.spelling r f.spells (subst (λ x. DecodesLast x r) f.joined d)
last_read_once bytes None None e d = refl
last_read_once bytes (Some (Ok c)) None e d = sym (last_decodes c d.front d.spelling None d.spells
    (subst (λ x. DecodesLast x None) d.joined e))
last_read_once bytes (Some (Err b)) None e d = absurd (none-some b (ap (λ x. byte_before x (length x)) (sym e) ∙ d.0))
last_read_once bytes None (Some (Err b)) e d = absurd (none-some b (ap (λ x. byte_before x (length x)) (sym d) ∙ e.0))
last_read_once bytes (Some (Ok c)) (Some (Err b)) e d = absurd (e.1 c d)
last_read_once bytes (Some (Err a)) (Some (Err b)) e d = ap (option_map (λ x. Err x)) (sym d.0 ∙ e.0)

-- the byte at the offset
byte_behind : (h : List ℕ) (i : ℕ) → byte_at (drop i h) 0 ≡ byte_at h i
byte_behind h i = elim (cases_lt i (length h)) [
  | inl l ↦
      slice_get-get_or (drop i h) 0 0 (omega (arith, length-drop i h))
      ∙ ap (λ x. Some x) (get_or-drop i h 0 0 ∙ ap (λ j. get_or h j 0) (omega arith))
      ∙ sym (slice_get-get_or h i 0 l)
  | inr past ↦ slice_get_past (drop i h) 0 (omega (arith, length-drop i h)) ∙ sym (slice_get_past h i past)
]

byte_in_front : (h : List ℕ) (i : ℕ) → i ≤ length h → byte_before (take i h) i ≡ byte_before h i
byte_in_front h zero l = refl
byte_in_front h (suc j) l =
    slice_get-get_or (take (suc j) h) j 0 (omega (arith, length-take-le (suc j) h l))
    ∙ ap (λ x. Some x) (get_or-take (suc j) h j 0 (omega arith))
    ∙ sym (slice_get-get_or h j 0 (omega arith))

-- for a reading by a byte and by a character
read_first_by : (bytes : List ℕ) (o : Option ℕ) (b : ℕ) → byte_at bytes 0 ≡ Some b → ((c : ℕ) → o ≡ Some c → SpellsFirst c bytes) →
    ((c : ℕ) → SpellsFirst c bytes → o ≡ Some c) →
    Decodes bytes (Some (ok_or o b))
read_first_by bytes None b e says reports = (e, λ c f. none-some c (reports c f))
read_first_by bytes (Some c) b e says reports = says c refl

read_last_by : (bytes : List ℕ) (o : Option ℕ) (b : ℕ) → byte_before bytes (length bytes) ≡ Some b →
    ((c : ℕ) → o ≡ Some c → SpellsLast c bytes) → ((c : ℕ) → SpellsLast c bytes → o ≡ Some c) →
    DecodesLast bytes (Some (ok_or o b))
read_last_by bytes None b e says reports = (e, λ c f. none-some c (reports c f))
read_last_by bytes (Some c) b e says reports = says c refl

decodes_option : (bytes : List ℕ) (o : Option ℕ) (p : Option ℕ) → byte_at bytes 0 ≡ p → ((c : ℕ) → o ≡ Some c → SpellsFirst c bytes) →
    ((c : ℕ) → SpellsFirst c bytes → o ≡ Some c) →
    Decodes bytes (option_map (λ b. ok_or o b) p)
decodes_option bytes o (Some b) e says reports = read_first_by bytes o b e says reports
decodes_option [] o None e says reports = refl
decodes_option (a ∷ t) o None e says reports = absurd (none-some a (sym e))

decodes_last_option : (bytes : List ℕ) (o : Option ℕ) (p : Option ℕ) → byte_before bytes (length bytes) ≡ p →
    ((c : ℕ) → o ≡ Some c → SpellsLast c bytes) → ((c : ℕ) → SpellsLast c bytes → o ≡ Some c) →
    DecodesLast bytes (option_map (λ b. ok_or o b) p)
decodes_last_option bytes o (Some b) e says reports = read_last_by bytes o b e says reports
decodes_last_option [] o None e says reports = refl
decodes_last_option (a ∷ t) o None e says reports = absurd (none-some _ (sym e ∙ slice_get-get_or (a ∷ t) (length t) 0 (omega arith)))

pub reads_at : (h : List ℕ) (i : ℕ) → Decodes (drop i h) (read_at h i)
reads_at h i = decodes_option (drop i h) (character_at h i) (byte_at h i) (byte_behind h i) (character_begins h i) (begun_character h i)

pub reads_before : (h : List ℕ) (i : ℕ) → i ≤ length h → DecodesLast (take i h) (read_before h i)
reads_before h i l =
    decodes_last_option (take i h) (character_before h i) (byte_before h i) (ap (byte_before (take i h)) (length-take-le i h l)
    ∙ byte_in_front h i l)
    (λ c. character_ends h i c l) (λ c. ended_character h i c l)

pub read_at_once : (h : List ℕ) (i : ℕ) (r : Option (Result ℕ ℕ)) → Decodes (drop i h) r → r ≡ read_at h i
read_at_once h i r d = first_read_once (drop i h) r (read_at h i) (reads_at h i) d

pub read_before_once : (h : List ℕ) (i : ℕ) (r : Option (Result ℕ ℕ)) → i ≤ length h → DecodesLast (take i h) r → r ≡ read_before h i
read_before_once h i r l d = last_read_once (take i h) r (read_before h i) (reads_before h i l) d
