-- The strings of a range's sequences are the spellings of its scalars, each of one sequence.
use Rattle.std.proofs.Common.{◌≡◌, ℕ, zero, suc, ◌+◌, ◌-◌, ◌/◌, ◌%◌, ◌<◌, ◌≤◌, ◌⊎◌, inl, inr, true, ◌&&◌, leb, min, List, [], ◌∷◌, length}
use Rattle.std.proofs.Common.{slice_get, take, Option, Some, None, refl, sym, ap, ap₂, subst, ◌∙◌, arith, lit≤}
use Rattle.std.specs.Char.{InScalarRange, encode_utf8}
use Rattle.std.specs.List.{zip}
use Rattle.std.specs.Option.{option_map, unwrap_or}
use Rattle.std.proofs.lemmas.Str.{encode_ascii}
use Rattle.std.proofs.lemmas.Bool.{and_parts, and_from, cond-true, cond-false, le-leb, lt-leb, leb-true, cases_lt, cases_order}
use Rattle.std.proofs.lemmas.Bool.Decides.{eqb_tells, nat_tests}
use Rattle.std.proofs.lemmas.Option.{none-some, slice_get-map, slice_get_past}
use Rattle.search_core.specs.Utf8.{scalar_of_two, scalar_of_three, scalar_of_four, Spells}
use Rattle.search_core.proofs.ForCallers.{spelling_encodes, encoded_spells, one_scalar, encode_two, encode_three, encode_four}
use Rattle.search_core.proofs.ForCallers.{range-of_IsScalar, IsScalar-of_range}
use Rattle.hir_core.specs.Sequences.{scalar_from, row_end, block_end, piece_end, pieces_of, pieces, spelling_of, byte_ranges}
use Rattle.hir_core.specs.Sequences.{utf8_sequences, is_in_ranges, begins_in_ranges}
use Rattle.hir_core.specs.Pieces.{Aligned, Blocks, IsPiece, IsPieceOf, Rises}
use Rattle.hir_core.proofs.SequenceSteps.{never, piece_between, pieces_first, pieces_none, scalar_above}

-- where a piece of whole blocks ends
abbrev EndsAt : ℕ → ℕ → ℕ → ℕ → Type 0
EndsAt size lo hi e =
    ((lo / size ≡ hi / size) × (e ≡ hi))
    ⊎ (((lo % size ≡ 0) × (hi % size ≡ size - 1) × (e ≡ hi))
    ⊎ (((lo / size < hi / size) × (lo % size ≡ 0) × (e ≡ hi - hi % size - 1)) ⊎
    ((lo / size < hi / size) × (e ≡ lo - lo % size + (size - 1)))))

ends_at : (size lo hi : ℕ) → (lo / size ≤ hi / size) → EndsAt size lo hi (block_end size lo hi)
ends_at size lo hi ordered = elim (eqb_tells (lo / size) (hi / size)) [
  | inl same ↦ inl (same.1, cond-true _ hi _ same.0)
  | inr other ↦
      let l : lo / size < hi / size = elim (cases_lt (lo / size) (hi / size)) [ inl x ↦ x | inr y ↦ absurd (other.1 (omega arith)) ] in
      elim (eqb_tells (lo % size) 0) [
        | inl whole ↦ elim (eqb_tells (hi % size) (size - 1)) [
          | inl last ↦ inr (inl (whole.1, last.1, cond-false _ _ _ other.0 ∙ cond-true _ _ _ whole.0 ∙ cond-true _ hi _ last.0))
          | inr not_last ↦ inr (inr (inl (l, whole.1, cond-false _ _ _ other.0 ∙ cond-true _ _ _ whole.0 ∙ cond-false _ hi _ not_last.0)))
        ]
        | inr part ↦ inr (inr (inr (l, cond-false _ _ _ other.0 ∙ cond-false _ _ _ part.0)))
      ]
]

after_64 : (lo hi e : ℕ) → lo ≤ hi → EndsAt 64 lo hi e → (lo ≤ e) × (e ≤ hi) × Aligned 64 lo e
after_64 lo hi e l h = elim h [
  | inl a ↦ (omega arith, omega arith, inl (omega arith))
  | inr h ↦ elim h [
    | inl a ↦ (omega arith, omega arith, inr (omega arith, omega arith))
    | inr h ↦ elim h [
      | inl a ↦ (omega arith, omega arith, inr (omega arith, omega arith))
      | inr a ↦
          (omega arith, omega arith, inl (omega arith))
    ]
  ]
]

after_4096 : (lo hi e : ℕ) → lo ≤ hi → Aligned 64 lo hi → EndsAt 4096 lo hi e → (lo ≤ e) × (e ≤ hi) × Aligned 64 lo e × Aligned 4096 lo e
after_4096 lo hi e l s h = elim h [
  | inl a ↦ (omega arith, omega arith, subst (Aligned 64 lo) (sym a.1) s, inl (omega arith))
  | inr h ↦ elim h [
    | inl a ↦ (omega arith, omega arith, subst (Aligned 64 lo) (sym a.2) s, inr (omega arith, omega arith))
    | inr h ↦ elim h [
      | inl a ↦ (omega arith, omega arith, inr (omega arith, omega arith), inr (omega arith, omega arith))
      | inr a ↦ (
        omega arith,
        omega arith,
        elim s [ inl b ↦ absurd (omega arith) | inr b ↦ inr (omega arith, omega arith) ],
        inl (omega arith),
      )
    ]
  ]
]

after_262144 : (lo hi e : ℕ) → lo ≤ hi → Aligned 64 lo hi → Aligned 4096 lo hi → EndsAt 262144 lo hi e → (lo ≤ e) × (e ≤ hi) × Blocks lo e
after_262144 lo hi e l s t h = elim h [
  | inl a ↦ (omega arith, omega arith, (subst (Aligned 64 lo) (sym a.1) s, subst (Aligned 4096 lo) (sym a.1) t, inl (omega arith)))
  | inr h ↦ elim h [
    | inl a ↦ (
      omega arith,
      omega arith,
      (
        subst (Aligned 64 lo) (sym a.2) s,
        subst (Aligned 4096 lo) (sym a.2) t,
        inr (omega arith, omega arith),
      ),
    )
    | inr h ↦ elim h [
      | inl a ↦ (omega arith, omega arith, (inr (omega arith, omega arith), inr (omega arith, omega arith), inr (omega arith, omega arith)))
      | inr a ↦ (
        omega arith,
        omega arith,
        (
          elim s [ inl b ↦ absurd (omega arith) | inr b ↦ inr (omega arith, omega arith) ],
          elim t [ inl b ↦ absurd (omega arith) | inr b ↦ inr (omega arith, omega arith) ],
          inl (omega arith),
        ),
      )
    ]
  ]
]

-- the end by blocks of all three sizes
blocks_end : (lo hi : ℕ) → lo ≤ hi → let e = block_end 262144 lo (block_end 4096 lo (block_end 64 lo hi)) in (lo ≤ e) × (e ≤ hi) ×
    Blocks lo e
blocks_end lo hi l =
    let a = after_64 lo hi (block_end 64 lo hi) l (ends_at 64 lo hi (omega arith)) in
    let b = after_4096 lo (block_end 64 lo hi) (block_end 4096 lo (block_end 64 lo hi)) a.0 a.2 (ends_at 4096 lo _ (omega (arith, a.0))) in
    let d = after_262144 lo _ (block_end 262144 lo (block_end 4096 lo (block_end 64 lo hi))) b.0 b.2 b.3
    (ends_at 262144 lo _ (omega (arith, b.0))) in
    (d.0, omega (arith, d.1, b.1, a.1), d.2)

row_cases : (c : ℕ) → InScalarRange c → 0x80 ≤ c →
    ((c ≤ 0x7FF) × (row_end c ≡ 0x7FF)) ⊎ (((0x800 ≤ c) × (c ≤ 0xD7FF) × (row_end c ≡ 0xD7FF)) ⊎
    (((0xE000 ≤ c) × (c ≤ 0xFFFF) × (row_end c ≡ 0xFFFF)) ⊎ ((0x10000 ≤ c) × (c ≤ 0x10FFFF) × (row_end c ≡ 0x10FFFF))))
row_cases c r low = grind (arith, nat_tests)

in_row : (f hi : ℕ) → InScalarRange f → f ≤ hi → 0x80 ≤ f → IsPiece f (block_end 262144 f
    (block_end 4096 f (block_end 64 f (min hi (row_end f)))))
in_row f hi r l more = elim (row_cases f r more) [
  | inl a ↦ let b = blocks_end f (min hi (row_end f)) (omega arith) in (b.0, inr (inl (more, omega (arith, b.1, a.1), b.2)))
  | inr h ↦ elim h [
    | inl a ↦ let b = blocks_end f (min hi (row_end f)) (omega arith) in (b.0, inr (inr (inl (a.0, omega (arith, b.1, a.2), b.2))))
    | inr h ↦ elim h [
      | inl a ↦ let b = blocks_end f (min hi (row_end f)) (omega arith) in (b.0, inr (inr (inr (inl (a.0, omega (arith, b.1, a.2), b.2)))))
      | inr a ↦ let b = blocks_end f (min hi (row_end f)) (omega arith) in (b.0, inr (inr (inr (inr (a.0, omega (arith, b.1, a.2), b.2)))))
    ]
  ]
]

piece_is : (f hi : ℕ) → InScalarRange f → f ≤ hi → IsPiece f (piece_end f hi)
piece_is f hi r l = elim (cases_lt f 0x80) [
  | inl ascii ↦
      let e : piece_end f hi ≡ min hi 0x7F = cond-true _ (min hi 0x7F) _ (le-leb f 0x7F (omega arith)) in
      (omega (arith, e), inl (omega (arith, e)))
  | inr more ↦
      let e : piece_end f hi ≡ block_end 262144 f (block_end 4096 f (block_end 64 f (min hi (row_end f)))) =
      cond-false _ (min hi 0x7F) _ (lt-leb f 0x7F (omega arith)) in
      subst (IsPiece f) (sym e) (in_row f hi r l more)
]

pub begins_with : (rs : List (ℕ × ℕ)) (bs : List ℕ) → begins_in_ranges rs bs ≡ is_in_ranges rs (take (length rs) bs)
begins_with [] bs = refl
begins_with (r ∷ rs) [] = refl
begins_with (r ∷ rs) (b ∷ bs) = ap (λ t. leb r.0 b && leb b r.1 && t) (begins_with rs bs)

-- ---- spellings by their length
abbrev pub two : ℕ → List ℕ
two c = (192 + c / 64) ∷ (128 + c % 64) ∷ []

abbrev pub three : ℕ → List ℕ
three c = (224 + c / 4096) ∷ (128 + (c / 64) % 64) ∷ (128 + c % 64) ∷ []

abbrev pub four : ℕ → List ℕ
four c = (240 + c / 262144) ∷ (128 + (c / 4096) % 64) ∷ (128 + (c / 64) % 64) ∷ (128 + c % 64) ∷ []

pub spelled_one : (c : ℕ) → c ≤ 0x7F → spelling_of c ≡ c ∷ []
spelled_one c h = cond-true _ _ _ (le-leb c 0x7F h)

pub spelled_two : (c : ℕ) → 0x80 ≤ c → c ≤ 0x7FF → spelling_of c ≡ two c
spelled_two c l h = cond-false _ _ _ (lt-leb c 0x7F (omega arith)) ∙ cond-true _ _ _ (le-leb c 0x7FF h)

pub spelled_three : (c : ℕ) → 0x800 ≤ c → c ≤ 0xFFFF → spelling_of c ≡ three c
spelled_three c l h =
    cond-false _ _ _ (lt-leb c 0x7F (omega arith)) ∙ cond-false _ _ _ (lt-leb c 0x7FF (omega arith)) ∙ cond-true _ _ _ (le-leb c 0xFFFF h)

pub spelled_four : (c : ℕ) → 0x10000 ≤ c → spelling_of c ≡ four c
spelled_four c l =
    cond-false _ _ _ (lt-leb c 0x7F (omega arith)) ∙ cond-false _ _ _ (lt-leb c 0x7FF (omega arith))
    ∙ cond-false _ _ _ (lt-leb c 0xFFFF (omega arith))

pub encoded : (c : ℕ) → encode_utf8 c ≡ spelling_of c
encoded c = elim (cases_lt c 0x80) [
  | inl a ↦ encode_ascii c a ∙ sym (spelled_one c (omega arith))
  | inr l ↦ elim (cases_lt c 0x800) [
    | inl a ↦ encode_two c l a ∙ sym (spelled_two c l (omega arith))
    | inr l ↦ elim (cases_lt c 0x10000) [
      | inl a ↦ encode_three c l a ∙ sym (spelled_three c l (omega arith))
      | inr l ↦
          encode_four c l ∙ sym (spelled_four c l)
    ]
  ]
]

pub spelled_encoded : (c : ℕ) → spelling_of c ≡ encode_utf8 c
spelled_encoded c = sym (encoded c)

-- ---- every spelling of a piece is in its ranges
abbrev Between : ℕ → ℕ → ℕ → Type 0
Between lo b hi = (lo ≤ b) × (b ≤ hi)

byte_in : (lo hi b : ℕ) (rs : List (ℕ × ℕ)) (bs : List ℕ) → Between lo b hi → is_in_ranges rs bs ≡ true →
    is_in_ranges ((lo, hi) ∷ rs) (b ∷ bs) ≡ true
byte_in lo hi b rs bs h e = and_from _ _ (and_from _ _ (le-leb lo b h.0) (le-leb b hi h.1)) e

in_one : (l h b : ℕ) → Between l b h → is_in_ranges ((l, h) ∷ []) (b ∷ []) ≡ true
in_one l h b p = byte_in l h b [] [] p refl

in_two : (l h b l' h' b' : ℕ) → Between l b h → Between l' b' h' → is_in_ranges ((l, h) ∷ (l', h') ∷ []) (b ∷ b' ∷ []) ≡ true
in_two l h b l' h' b' p q = byte_in l h b ((l', h') ∷ []) (b' ∷ []) p (in_one l' h' b' q)

in_three : (l h b l' h' b' x y d : ℕ) → Between l b h → Between l' b' h' → Between x d y →
    is_in_ranges ((l, h) ∷ (l', h') ∷ (x, y) ∷ []) (b ∷ b' ∷ d ∷ []) ≡ true
in_three l h b l' h' b' x y d p q r = byte_in l h b ((l', h') ∷ (x, y) ∷ []) (b' ∷ d ∷ []) p (in_two l' h' b' x y d q r)

in_four : (l h b l' h' b' x y d z w g : ℕ) → Between l b h → Between l' b' h' → Between x d y → Between z g w →
    is_in_ranges ((l, h) ∷ (l', h') ∷ (x, y) ∷ (z, w) ∷ []) (b ∷ b' ∷ d ∷ g ∷ []) ≡ true
in_four l h b l' h' b' x y d z w g p q r s = byte_in l h b ((l', h') ∷ (x, y) ∷ (z, w) ∷ []) (b' ∷ d ∷ g ∷ []) p
    (in_three l' h' b' x y d z w g q r s)

two_in : (f c e : ℕ) → f ≤ c → c ≤ e → Aligned 64 f e → is_in_ranges (zip (two f) (two e)) (two c) ≡ true
two_in f c e l h a =
    let last : Between (128 + f % 64) (128 + c % 64) (128 + e % 64) = elim a [
      | inl s ↦ (omega arith, omega arith)
      | inr s ↦
          (omega arith, omega arith)
    ] in
    let lead : Between (192 + f / 64) (192 + c / 64) (192 + e / 64) = (omega arith, omega arith) in
    in_two _ _ _ _ _ _ lead last

three_in : (f c e : ℕ) → f ≤ c → c ≤ e → Aligned 64 f e → Aligned 4096 f e → is_in_ranges (zip (three f) (three e)) (three c) ≡ true
three_in f c e l h a b =
    let last : Between (128 + f % 64) (128 + c % 64) (128 + e % 64) = elim a [
      | inl s ↦ (omega arith, omega arith)
      | inr s ↦
          (omega arith, omega arith)
    ] in
    let next : Between (128 + (f / 64) % 64) (128 + (c / 64) % 64) (128 + (e / 64) % 64) =
    elim b [ inl s ↦ (omega arith, omega arith) | inr s ↦ (omega arith, omega arith) ] in
    let lead : Between (224 + f / 4096) (224 + c / 4096) (224 + e / 4096) = (omega arith, omega arith) in
    in_three _ _ _ _ _ _ _ _ _ lead next last

four_in : (f c e : ℕ) → f ≤ c → c ≤ e → Blocks f e → is_in_ranges (zip (four f) (four e)) (four c) ≡ true
four_in f c e l h a =
    let last : Between (128 + f % 64) (128 + c % 64) (128 + e % 64) = elim a.0 [
      | inl s ↦ (omega arith, omega arith)
      | inr s ↦
          (omega arith, omega arith)
    ] in
    let third : Between (128 + (f / 64) % 64) (128 + (c / 64) % 64) (128 + (e / 64) % 64) =
    elim a.1 [ inl s ↦ (omega arith, omega arith) | inr s ↦ (omega arith, omega arith) ] in
    let next : Between (128 + (f / 4096) % 64) (128 + (c / 4096) % 64) (128 + (e / 4096) % 64) =
    elim a.2 [ inl s ↦ (omega arith, omega arith) | inr s ↦ (omega arith, omega arith) ] in
    let lead : Between (240 + f / 262144) (240 + c / 262144) (240 + e / 262144) = (omega arith, omega arith) in
    in_four _ _ _ _ _ _ _ _ _ _ _ _ lead next third last

in_by : (f c e : ℕ) (x y z : List ℕ) → spelling_of f ≡ x → spelling_of e ≡ y → spelling_of c ≡ z → is_in_ranges (zip x y) z ≡ true →
    is_in_ranges (byte_ranges (f, e)) (spelling_of c) ≡ true
in_by f c e x y z a b d h = ap₂ is_in_ranges (ap₂ zip a b) d ∙ h

pub spelling_in : (f c e : ℕ) → IsPiece f e → f ≤ c → c ≤ e → is_in_ranges (byte_ranges (f, e)) (spelling_of c) ≡ true
spelling_in f c e p l h = elim p.1 [
  | inl a ↦ in_by f c e _ _ _ (spelled_one f (omega arith)) (spelled_one e a) (spelled_one c (omega arith)) (in_one f e c (l, h))
  | inr r ↦ elim r [
    | inl a ↦ in_by f c e _ _ _ (spelled_two f a.0 (omega arith)) (spelled_two e (omega arith) a.1)
        (spelled_two c (omega arith) (omega arith)) (two_in f c e l h a.2.0)
    | inr r ↦ elim r [
      | inl a ↦ in_by f c e _ _ _ (spelled_three f a.0 (omega arith)) (spelled_three e (omega arith) (omega arith))
          (spelled_three c (omega arith) (omega arith)) (three_in f c e l h a.2.0 a.2.1)
      | inr r ↦ elim r [
        | inl a ↦ in_by f c e _ _ _ (spelled_three f (omega arith) (omega arith)) (spelled_three e (omega arith) a.1)
            (spelled_three c (omega arith) (omega arith)) (three_in f c e l h a.2.0 a.2.1)
        | inr a ↦ in_by f c e _ _ _ (spelled_four f a.0) (spelled_four e (omega arith)) (spelled_four c (omega arith))
            (four_in f c e l h a.2)
      ]
    ]
  ]
]

-- ---- and every string of its ranges is one
abbrev FirstIn : ℕ → ℕ → List (ℕ × ℕ) → List ℕ → Type 0
FirstIn lo hi rs s = (b : ℕ) × (t : List ℕ) × (s ≡ b ∷ t) × (lo ≤ b) × (b ≤ hi) × (is_in_ranges rs t ≡ true)

first_in : (lo hi : ℕ) (rs : List (ℕ × ℕ)) (s : List ℕ) → is_in_ranges ((lo, hi) ∷ rs) s ≡ true → FirstIn lo hi rs s
first_in lo hi rs [] e = absurd (never e)
first_in lo hi rs (b ∷ t) e =
    let p = and_parts _ _ e in
    let q = and_parts _ _ p.0 in
    (b, t, refl, leb-true lo b q.0, leb-true b hi q.1, p.1)

none_in : (s : List ℕ) → is_in_ranges [] s ≡ true → s ≡ []
none_in [] e = refl
none_in (b ∷ t) e = absurd (never e)

abbrev SpelledIn : ℕ → ℕ → List ℕ → Type 0
SpelledIn f e s = (c : ℕ) × (f ≤ c) × (c ≤ e) × (spelling_of c ≡ s)

one_spelled : (f e : ℕ) (s : List ℕ) → e ≤ 0x7F → is_in_ranges ((f, e) ∷ []) s ≡ true → SpelledIn f e s
one_spelled f e s h i =
    let p = first_in f e [] s i in
    let z = none_in p.1 p.5 in
    (p.0, p.3, p.4, spelled_one p.0 (omega (arith, p.4)) ∙ ap (λ t. p.0 ∷ t) (sym z) ∙ sym p.2)

-- the scalar that bytes in the ranges spell lies in the piece
two_bounds : (f e a b : ℕ) → Aligned 64 f e → Between (192 + f / 64) a (192 + e / 64) → Between (128 + f % 64) b (128 + e % 64) →
    Between f (scalar_of_two a b) e
two_bounds f e a b h i j = elim h [ inl s ↦ (omega arith, omega arith) | inr s ↦ (omega arith, omega arith) ]

three_bounds : (f e a b d : ℕ) → Aligned 64 f e → Aligned 4096 f e → Between (224 + f / 4096) a (224 + e / 4096) →
    Between (128 + (f / 64) % 64) b (128 + (e / 64) % 64) →
    Between (128 + f % 64) d (128 + e % 64) → Between f (scalar_of_three a b d) e
three_bounds f e a b d h k i j l = elim h [
  | inl s ↦ elim k [ inl t ↦ (omega arith, omega arith) | inr t ↦ (omega arith, omega arith) ]
  | inr s ↦ elim k [ inl t ↦ (omega arith, omega arith) | inr t ↦ (omega arith, omega arith) ]
]

four_bounds : (f e a b d g : ℕ) → Blocks f e → Between (240 + f / 262144) a (240 + e / 262144) →
    Between (128 + (f / 4096) % 64) b (128 + (e / 4096) % 64) →
    Between (128 + (f / 64) % 64) d (128 + (e / 64) % 64) → Between (128 + f % 64) g (128 + e % 64) → Between f (scalar_of_four a b d g) e
four_bounds f e a b d g h i j k l = elim h.0 [
  | inl s ↦ elim h.1 [
    | inl t ↦ elim h.2 [ inl u ↦ (omega arith, omega arith) | inr u ↦ (omega arith, omega arith) ]
    | inr t ↦ elim h.2 [ inl u ↦ (omega arith, omega arith) | inr u ↦ (omega arith, omega arith) ]
  ]
  | inr s ↦ elim h.1 [
    | inl t ↦ elim h.2 [ inl u ↦ (omega arith, omega arith) | inr u ↦ (omega arith, omega arith) ]
    | inr t ↦ elim h.2 [ inl u ↦ (omega arith, omega arith) | inr u ↦ (omega arith, omega arith) ]
  ]
]

-- its bytes are these
two_same : (a b : ℕ) → 192 ≤ a → Between 128 b 191 → two (scalar_of_two a b) ≡ a ∷ b ∷ []
two_same a b i j =
    let x : 192 + scalar_of_two a b / 64 ≡ a = omega arith in
    let y : 128 + scalar_of_two a b % 64 ≡ b = omega arith in
    ap₂ (λ (x y : ℕ). x ∷ y ∷ []) x y

three_same : (a b d : ℕ) → 224 ≤ a → Between 128 b 191 → Between 128 d 191 → three (scalar_of_three a b d) ≡ a ∷ b ∷ d ∷ []
three_same a b d i j k =
    let x : 224 + scalar_of_three a b d / 4096 ≡ a = omega arith in
    let y : 128 + (scalar_of_three a b d / 64) % 64 ≡ b = omega arith in
    let z : 128 + scalar_of_three a b d % 64 ≡ d = omega arith in
    ap₂ (λ (p : ℕ) (q : List ℕ). p ∷ q) x (ap₂ (λ (p q : ℕ). p ∷ q ∷ []) y z)

four_same : (a b d g : ℕ) → 240 ≤ a → Between 128 b 191 → Between 128 d 191 → Between 128 g 191 →
    four (scalar_of_four a b d g) ≡ a ∷ b ∷ d ∷ g ∷ []
four_same a b d g i j k l =
    let x : 240 + scalar_of_four a b d g / 262144 ≡ a = omega arith in
    let y : 128 + (scalar_of_four a b d g / 4096) % 64 ≡ b = omega arith in
    let z : 128 + (scalar_of_four a b d g / 64) % 64 ≡ d = omega arith in
    let w : 128 + scalar_of_four a b d g % 64 ≡ g = omega arith in
    ap₂ (λ (p : ℕ) (q : List ℕ). p ∷ q) x (ap₂ (λ (p : ℕ) (q : List ℕ). p ∷ q) y (ap₂ (λ (p q : ℕ). p ∷ q ∷ []) z w))

two_put : (f e : ℕ) (s : List ℕ) (a b : ℕ) → 0x80 ≤ f → e ≤ 0x7FF → Aligned 64 f e → Between (192 + f / 64) a (192 + e / 64) →
    Between (128 + f % 64) b (128 + e % 64) →
    s ≡ a ∷ b ∷ [] → SpelledIn f e s
two_put f e s a b o l h i j x =
    let m = two_bounds f e a b h i j in (
      scalar_of_two a b,
      m.0,
      m.1,
      spelled_two (scalar_of_two a b) (omega (arith, m.0)) (omega (arith, m.1))
          ∙ two_same a b (omega arith) (omega arith, omega arith) ∙ sym x,
    )

three_put : (f e : ℕ) (s : List ℕ) (a b d : ℕ) → 0x800 ≤ f → e ≤ 0xFFFF → Aligned 64 f e → Aligned 4096 f e →
    Between (224 + f / 4096) a (224 + e / 4096) →
    Between (128 + (f / 64) % 64) b (128 + (e / 64) % 64) → Between (128 + f % 64) d (128 + e % 64) → s ≡ a ∷ b ∷ d ∷ [] → SpelledIn f e s
three_put f e s a b d o l h k i j m x =
    let n = three_bounds f e a b d h k i j m in (
      scalar_of_three a b d,
      n.0,
      n.1,
      spelled_three (scalar_of_three a b d) (omega (arith, n.0)) (omega (arith, n.1))
          ∙ three_same a b d (omega arith) (omega arith, omega arith) (omega arith, omega arith) ∙ sym x,
    )

four_put : (f e : ℕ) (s : List ℕ) (a b d g : ℕ) → 0x10000 ≤ f → Blocks f e → Between (240 + f / 262144) a (240 + e / 262144) →
    Between (128 + (f / 4096) % 64) b (128 + (e / 4096) % 64) →
    Between (128 + (f / 64) % 64) d (128 + (e / 64) % 64) → Between (128 + f % 64) g (128 + e % 64) → s ≡ a ∷ b ∷ d ∷ g ∷ [] →
    SpelledIn f e s
four_put f e s a b d g o h i j k m x =
    let n = four_bounds f e a b d g h i j k m in (
      scalar_of_four a b d g,
      n.0,
      n.1,
      spelled_four (scalar_of_four a b d g) (omega (arith, n.0)) ∙ four_same a b d g (omega arith) (omega arith, omega arith) (
        omega arith,
        omega arith,
      ) (omega arith, omega arith) ∙ sym x,
    )

then_by : (s : List ℕ) (a : ℕ) (t u : List ℕ) → s ≡ a ∷ t → t ≡ u → s ≡ a ∷ u
then_by s a t u e f = e ∙ ap (λ l. a ∷ l) f

two_spelled : (f e : ℕ) (s : List ℕ) → 0x80 ≤ f → e ≤ 0x7FF → Aligned 64 f e → is_in_ranges (zip (two f) (two e)) s ≡ true → SpelledIn f e s
two_spelled f e s o l a i =
    let p = first_in (192 + f / 64) (192 + e / 64) ((128 + f % 64, 128 + e % 64) ∷ []) s i in
    let q = first_in (128 + f % 64) (128 + e % 64) [] p.1 p.5 in
    let z = none_in q.1 q.5 in
    two_put f e s p.0 q.0 o l a (p.3, p.4) (q.3, q.4) (then_by s p.0 p.1 (q.0 ∷ []) p.2 (then_by p.1 q.0 q.1 [] q.2 z))

three_spelled : (f e : ℕ) (s : List ℕ) → 0x800 ≤ f → e ≤ 0xFFFF → Aligned 64 f e → Aligned 4096 f e →
    is_in_ranges (zip (three f) (three e)) s ≡ true → SpelledIn f e s
three_spelled f e s o l a b i =
    let p = first_in (224 + f / 4096) (224 + e / 4096) ((128 + (f / 64) % 64, 128 + (e / 64) % 64) ∷ (
      128 + f % 64,
      128 + e % 64,
    ) ∷ []) s i in
    let q = first_in (128 + (f / 64) % 64) (128 + (e / 64) % 64) ((128 + f % 64, 128 + e % 64) ∷ []) p.1 p.5 in
    let r = first_in (128 + f % 64) (128 + e % 64) [] q.1 q.5 in
    let z = none_in r.1 r.5 in
    three_put f e s p.0 q.0 r.0 o l a b (p.3, p.4) (q.3, q.4) (r.3, r.4)
    (then_by s p.0 p.1 (q.0 ∷ r.0 ∷ []) p.2 (then_by p.1 q.0 q.1 (r.0 ∷ []) q.2 (then_by q.1 r.0 r.1 [] r.2 z)))

four_spelled : (f e : ℕ) (s : List ℕ) → 0x10000 ≤ f → Blocks f e → is_in_ranges (zip (four f) (four e)) s ≡ true → SpelledIn f e s
four_spelled f e s o a i =
    let p = first_in (240 + f / 262144) (240 + e / 262144) ((128 + (f / 4096) % 64, 128 + (e / 4096) % 64) ∷ (
      128 + (f / 64) % 64,
      128 + (e / 64) % 64,
    ) ∷ (128 + f % 64, 128 + e % 64) ∷ []) s i in
    let q = first_in (128 + (f / 4096) % 64) (128 + (e / 4096) % 64) ((128 + (f / 64) % 64, 128 + (e / 64) % 64) ∷ (
      128 + f % 64,
      128 + e % 64,
    ) ∷ []) p.1 p.5 in
    let r = first_in (128 + (f / 64) % 64) (128 + (e / 64) % 64) ((128 + f % 64, 128 + e % 64) ∷ []) q.1 q.5 in
    let u = first_in (128 + f % 64) (128 + e % 64) [] r.1 r.5 in
    let z = none_in u.1 u.5 in
    four_put f e s p.0 q.0 r.0 u.0 o a (p.3, p.4) (q.3, q.4) (r.3, r.4) (
      u.3,
      u.4,
    ) (then_by s p.0 p.1 (q.0 ∷ r.0 ∷ u.0 ∷ []) p.2 (then_by p.1 q.0 q.1 (r.0 ∷ u.0 ∷ []) q.2
    (then_by q.1 r.0 r.1 (u.0 ∷ []) r.2 (then_by r.1 u.0 u.1 [] u.2 z))))

ranges_by : (f e : ℕ) (s x y : List ℕ) → spelling_of f ≡ x → spelling_of e ≡ y → is_in_ranges (byte_ranges (f, e)) s ≡ true →
    is_in_ranges (zip x y) s ≡ true
ranges_by f e s x y a b h = ap (λ r. is_in_ranges r s) (sym (ap₂ zip a b)) ∙ h

in_spelled : (f e : ℕ) (s : List ℕ) → IsPiece f e → is_in_ranges (byte_ranges (f, e)) s ≡ true → SpelledIn f e s
in_spelled f e s p i = elim p.1 [
  | inl a ↦ one_spelled f e s a (ranges_by f e s _ _ (spelled_one f (omega arith)) (spelled_one e a) i)
  | inr r ↦ elim r [
    | inl a ↦ two_spelled f e s a.0 a.1 a.2.0 (ranges_by f e s _ _ (spelled_two f a.0 (omega arith)) (spelled_two e (omega arith) a.1) i)
    | inr r ↦ elim r [
      | inl a ↦ three_spelled f e s a.0 (omega arith) a.2.0 a.2.1 (ranges_by f e s _ _ (spelled_three f a.0 (omega arith))
          (spelled_three e (omega arith) (omega arith)) i)
      | inr r ↦ elim r [
        | inl a ↦ three_spelled f e s (omega arith) a.1 a.2.0 a.2.1 (ranges_by f e s _ _ (spelled_three f (omega arith) (omega arith))
            (spelled_three e (omega arith) a.1) i)
        | inr a ↦ four_spelled f e s a.0 a.2 (ranges_by f e s _ _ (spelled_four f a.0) (spelled_four e (omega arith)) i)
      ]
    ]
  ]
]

same_value : {A : Type 0} → (x y : A) → Some x ≡ Some y → x ≡ y
same_value x y e = ap (λ o. unwrap_or o x) e

-- ---- the pieces of a range
scalar_is : (n : ℕ) → scalar_from n ≤ 0x10FFFF → InScalarRange (scalar_from n)
scalar_is n h = grind (arith, nat_tests)

scalar_next : (n c : ℕ) → n ≤ c → InScalarRange c → scalar_from n ≤ c
scalar_next n c l r = grind (arith, nat_tests)

scalar_most : (c : ℕ) → InScalarRange c → c ≤ 0x10FFFF
scalar_most c r = elim r [ inl a ↦ omega arith | inr a ↦ a.1 ]

pub rises : (most lo hi : ℕ) → Rises lo hi (pieces_of most lo hi)
rises zero lo hi = tt
rises (suc most) lo hi = elim (cases_lt (min hi 0x10FFFF) (scalar_from lo)) [
  | inl none ↦ subst (Rises lo hi) (sym (pieces_none (suc most) lo hi none)) tt
  | inr l ↦
      let p = piece_between (scalar_from lo) hi (omega arith) (omega arith) in
      subst (Rises lo hi) (sym (pieces_first most lo hi l)) (
        scalar_above lo,
        p.1,
        piece_is (scalar_from lo) hi (scalar_is lo (omega arith)) (omega arith),
        rises most (piece_end (scalar_from lo) hi + 1) hi,
      )
]

at_place : (low hi : ℕ) (ps : List (ℕ × ℕ)) (i : ℕ) (p : ℕ × ℕ) → Rises low hi ps → slice_get ps i ≡ Some p → IsPieceOf low hi p
at_place low hi [] i p r e = absurd (none-some p (sym (slice_get_past [] i (omega arith)) ∙ e))
at_place low hi (x ∷ ps) zero p r e = subst (IsPieceOf low hi) (same_value x p e) (r.0, r.1, r.2)
at_place low hi (x ∷ ps) (suc i) p r e =
    let q = at_place (x.1 + 1) hi ps i p r.3 e in
    (omega (arith, r.0, r.2.0, q.0), q.1, q.2)

in_order : (low hi : ℕ) (ps : List (ℕ × ℕ)) (i j : ℕ) (p q : ℕ × ℕ) → Rises low hi ps → i < j → slice_get ps i ≡ Some p →
    slice_get ps j ≡ Some q → p.1 < q.0
in_order low hi [] i j p q r l e f = absurd (none-some p (sym (slice_get_past [] i (omega arith)) ∙ e))
in_order low hi (x ∷ ps) i zero p q r l e f = absurd (omega arith)
in_order low hi (x ∷ ps) zero (suc j) p q r l e f =
    let s = at_place (x.1 + 1) hi ps j q r.3 f in
    let same : x.1 ≡ p.1 = ap (λ (y : ℕ × ℕ). y.1) (same_value x p e) in
    omega (arith, same, s.0)
in_order low hi (x ∷ ps) (suc i) (suc j) p q r l e f = in_order (x.1 + 1) hi ps i j p q r.3 (omega arith) e f

abbrev pub HasPiece : ℕ → List (ℕ × ℕ) → Type 0
HasPiece c ps = (i : ℕ) × (p : ℕ × ℕ) × (slice_get ps i ≡ Some p) × (p.0 ≤ c) × (c ≤ p.1)

pub covers : (most lo hi c : ℕ) → hi + 1 - lo ≤ most → InScalarRange c → lo ≤ c → c ≤ hi → HasPiece c (pieces_of most lo hi)
covers zero lo hi c m r l h = absurd (omega arith)
covers (suc most) lo hi c m r l h =
    let n = scalar_next lo c l r in
    let t = scalar_most c r in
    let p = piece_between (scalar_from lo) hi (omega arith) (omega arith) in
    let s = scalar_above lo in
    subst (HasPiece c) (sym (pieces_first most lo hi (omega arith)))
    (elim (cases_lt (piece_end (scalar_from lo) hi) c) [
      | inl later ↦
          let o = covers most (piece_end (scalar_from lo) hi + 1) hi c (omega arith) r (omega arith) h in
          (suc o.0, o.1, o.2, o.3, o.4)
      | inr here ↦ (0, (scalar_from lo, piece_end (scalar_from lo) hi), refl, n, here)
    ])

-- ---- the sequences of a range
of_some : {A B : Type 0} (f : A → B) (o : Option A) (y : B) → option_map f o ≡ Some y → (x : A) × (o ≡ Some x) × (f x ≡ y)
of_some f None y e = absurd (none-some y e)
of_some f (Some x) y e = (x, refl, same_value (f x) y e)

-- the piece of a sequence
piece_at : (lo hi i : ℕ) (rs : List (ℕ × ℕ)) → slice_get (utf8_sequences lo hi) i ≡ Some rs → (p : ℕ × ℕ) ×
    (slice_get (pieces lo hi) i ≡ Some p) × (byte_ranges p ≡ rs)
piece_at lo hi i rs e = of_some byte_ranges (slice_get (pieces lo hi) i) rs (sym (slice_get-map byte_ranges (pieces lo hi) i) ∙ e)

pub spelled_by : (c : ℕ) (s : List ℕ) → Spells c s → spelling_of c ≡ s
spelled_by c s h = sym (encoded c) ∙ (spelling_encodes c s h).1

pub scalar_by : (c : ℕ) (s : List ℕ) → Spells c s → InScalarRange c
scalar_by c s h = range-of_IsScalar c (spelling_encodes c s h).0

pub spelling_has_place : (lo hi c : ℕ) (s : List ℕ) → lo ≤ c → c ≤ hi → Spells c s →
    (i : ℕ) × (rs : List (ℕ × ℕ)) × (slice_get (utf8_sequences lo hi) i ≡ Some rs) × (is_in_ranges rs s ≡ true)
spelling_has_place lo hi c s l h k =
    let o = covers (hi + 1 - lo) lo hi c (omega arith) (scalar_by c s k) l h in
    let p = at_place lo hi (pieces lo hi) o.0 o.1 (rises (hi + 1 - lo) lo hi) o.2 in (
      o.0,
      byte_ranges o.1,
      slice_get-map byte_ranges (pieces lo hi) o.0 ∙ ap (option_map byte_ranges) o.2,
      ap (is_in_ranges (byte_ranges o.1)) (sym (spelled_by c s k)) ∙ spelling_in o.1.0 c o.1.1 p.2 o.3 o.4,
    )

-- a piece spells scalars only
piece_scalars : (f e c : ℕ) → IsPiece f e → f ≤ c → c ≤ e → InScalarRange c
piece_scalars f e c p l h = elim p.1 [
  | inl a ↦ inl (omega arith)
  | inr r ↦ elim r [
    | inl a ↦ inl (omega arith)
    | inr r ↦ elim r [
      | inl a ↦ inl (omega arith)
      | inr r ↦ elim r [
        | inl a ↦ inr (omega arith, omega arith)
        | inr a ↦
            inr (omega arith, omega arith)
      ]
    ]
  ]
]

abbrev pub SpelledOf : ℕ × ℕ → List ℕ → Type 0
SpelledOf p s = (c : ℕ) × (p.0 ≤ c) × (c ≤ p.1) × Spells c s

pub string_spells : (p : ℕ × ℕ) (rs : List (ℕ × ℕ)) (s : List ℕ) → IsPiece p.0 p.1 → byte_ranges p ≡ rs → is_in_ranges rs s ≡ true →
    SpelledOf p s
string_spells p rs s k e i =
    let o = in_spelled p.0 p.1 s k (ap (λ r. is_in_ranges r s) e ∙ i) in
    (o.0, o.1, o.2, encoded_spells o.0 s (IsScalar-of_range o.0 (piece_scalars p.0 p.1 o.0 k o.1 o.2)) (encoded o.0 ∙ o.3))

-- the string at an index is a spelling of a scalar of the piece at that index
module _ (lo hi i : ℕ) (rs : List (ℕ × ℕ)) (s : List ℕ) (e : slice_get (utf8_sequences lo hi) i ≡ Some rs)
    (m : is_in_ranges rs s ≡ true) where
  string_piece : (p : ℕ × ℕ) × (slice_get (pieces lo hi) i ≡ Some p) × IsPieceOf lo hi p × SpelledOf p s
  string_piece =
      let p = piece_at lo hi i rs e in
      let k = at_place lo hi (pieces lo hi) i p.0 (rises (hi + 1 - lo) lo hi) p.1 in
      (p.0, p.1, k, string_spells p.0 rs s k.2 p.2 m)

  pub string_is_spelling : (c : ℕ) × (lo ≤ c) × (c ≤ hi) × Spells c s
  string_is_spelling =
      let p = string_piece in
      (p.3.0, omega (arith, p.2.0, p.3.1), omega (arith, p.2.1, p.3.2), p.3.3)

pub strings_rise : (lo hi i j : ℕ) (rs ts : List (ℕ × ℕ)) (s t : List ℕ) (c d : ℕ) → i < j → slice_get (utf8_sequences lo hi) i ≡ Some rs →
    slice_get (utf8_sequences lo hi) j ≡ Some ts →
    is_in_ranges rs s ≡ true → is_in_ranges ts t ≡ true → Spells c s → Spells d t → c < d
strings_rise lo hi i j rs ts s t c d l e f m n h k =
    let p = string_piece lo hi i rs s e m in
    let q = string_piece lo hi j ts t f n in
    let o = in_order lo hi (pieces lo hi) i j p.0 q.0 (rises (hi + 1 - lo) lo hi) l p.1 q.1 in
    omega (arith, o, p.3.2, q.3.1, one_scalar c p.3.0 s h p.3.3, one_scalar d q.3.0 t k q.3.3)

pub one_place : (lo hi i j : ℕ) (rs ts : List (ℕ × ℕ)) (s : List ℕ) → slice_get (utf8_sequences lo hi) i ≡ Some rs →
    slice_get (utf8_sequences lo hi) j ≡ Some ts →
    is_in_ranges rs s ≡ true → is_in_ranges ts s ≡ true → i ≡ j
one_place lo hi i j rs ts s e f m n =
    let c = string_is_spelling lo hi i rs s e m in
    elim (cases_order i j) [
      | inl same ↦ same
      | inr w ↦ elim w [
        | inl l ↦ absurd (omega (arith, strings_rise lo hi i j rs ts s s c.0 c.0 l e f m n c.3 c.3))
        | inr l ↦ absurd (omega (arith, strings_rise lo hi j i ts rs s s c.0 c.0 l f e n m c.3 c.3))
      ]
    ]

-- ---- the ranges of a sequence
abbrev AreRanges : List (ℕ × ℕ) → Type 0
AreRanges rs = (k : ℕ) (r : ℕ × ℕ) → slice_get rs k ≡ Some r → (r.0 ≤ r.1) × (r.1 < 256)

no_ranges : AreRanges []
no_ranges k r e = absurd (none-some r (sym (slice_get_past [] k (omega arith)) ∙ e))

range_then : (l h : ℕ) (rs : List (ℕ × ℕ)) → (l ≤ h) × (h < 256) → AreRanges rs → AreRanges ((l, h) ∷ rs)
range_then l h rs p a zero r e = subst (λ (x : ℕ × ℕ). (x.0 ≤ x.1) × (x.1 < 256)) (same_value (l, h) r e) p
range_then l h rs p a (suc k) r e = a k r e

abbrev IsByteRange : ℕ → ℕ → Type 0
IsByteRange l h = (l ≤ h) × (h < 256)

ranges_one : (l h : ℕ) → IsByteRange l h → AreRanges ((l, h) ∷ [])
ranges_one l h p = range_then l h [] p no_ranges

ranges_two : (l h x y : ℕ) → IsByteRange l h → IsByteRange x y → AreRanges ((l, h) ∷ (x, y) ∷ [])
ranges_two l h x y p q = range_then l h ((x, y) ∷ []) p (ranges_one x y q)

ranges_three : (l h x y z w : ℕ) → IsByteRange l h → IsByteRange x y → IsByteRange z w → AreRanges ((l, h) ∷ (x, y) ∷ (z, w) ∷ [])
ranges_three l h x y z w p q r = range_then l h ((x, y) ∷ (z, w) ∷ []) p (ranges_two x y z w q r)

ranges_four : (l h x y z w u v : ℕ) → IsByteRange l h → IsByteRange x y → IsByteRange z w → IsByteRange u v →
    AreRanges ((l, h) ∷ (x, y) ∷ (z, w) ∷ (u, v) ∷ [])
ranges_four l h x y z w u v p q r s = range_then l h ((x, y) ∷ (z, w) ∷ (u, v) ∷ []) p (ranges_three x y z w u v q r s)

abbrev IsShort : List (ℕ × ℕ) → Type 0
IsShort rs = (1 ≤ length rs) × (length rs ≤ 4) × AreRanges rs

short_by : (f e : ℕ) (x y : List ℕ) → spelling_of f ≡ x → spelling_of e ≡ y → IsShort (zip x y) → IsShort (byte_ranges (f, e))
short_by f e x y a b h = subst IsShort (sym (ap₂ zip a b)) h

two_short : (f e : ℕ) → f ≤ e → e ≤ 0x7FF → Blocks f e → IsShort (zip (two f) (two e))
two_short f e l h b =
    let last : IsByteRange (128 + f % 64) (128 + e % 64) = elim b.0 [
      | inl s ↦ (omega arith, omega arith)
      | inr s ↦
          (omega arith, omega arith)
    ] in
    let lead : IsByteRange (192 + f / 64) (192 + e / 64) = (omega arith, omega arith) in
    (lit≤ tt, lit≤ tt, ranges_two _ _ _ _ lead last)

three_short : (f e : ℕ) → f ≤ e → e ≤ 0xFFFF → Blocks f e → IsShort (zip (three f) (three e))
three_short f e l h b =
    let last : IsByteRange (128 + f % 64) (128 + e % 64) = elim b.0 [
      | inl s ↦ (omega arith, omega arith)
      | inr s ↦
          (omega arith, omega arith)
    ] in
    let next : IsByteRange (128 + (f / 64) % 64) (128 + (e / 64) % 64) =
    elim b.1 [ inl s ↦ (omega arith, omega arith) | inr s ↦ (omega arith, omega arith) ] in
    let lead : IsByteRange (224 + f / 4096) (224 + e / 4096) = (omega arith, omega arith) in
    (lit≤ tt, lit≤ tt, ranges_three _ _ _ _ _ _ lead next last)

four_short : (f e : ℕ) → f ≤ e → e ≤ 0x10FFFF → Blocks f e → IsShort (zip (four f) (four e))
four_short f e l h b =
    let last : IsByteRange (128 + f % 64) (128 + e % 64) = elim b.0 [
      | inl s ↦ (omega arith, omega arith)
      | inr s ↦
          (omega arith, omega arith)
    ] in
    let third : IsByteRange (128 + (f / 64) % 64) (128 + (e / 64) % 64) =
    elim b.1 [ inl s ↦ (omega arith, omega arith) | inr s ↦ (omega arith, omega arith) ] in
    let next : IsByteRange (128 + (f / 4096) % 64) (128 + (e / 4096) % 64) =
    elim b.2 [ inl s ↦ (omega arith, omega arith) | inr s ↦ (omega arith, omega arith) ] in
    let lead : IsByteRange (240 + f / 262144) (240 + e / 262144) = (omega arith, omega arith) in
    (lit≤ tt, lit≤ tt, ranges_four _ _ _ _ _ _ _ _ lead next third last)

piece_short : (f e : ℕ) → IsPiece f e → IsShort (byte_ranges (f, e))
piece_short f e p = elim p.1 [
  | inl a ↦ short_by f e _ _ (spelled_one f (omega arith)) (spelled_one e a) (lit≤ tt, lit≤ tt, ranges_one f e (p.0, omega arith))
  | inr r ↦ elim r [
    | inl a ↦ short_by f e _ _ (spelled_two f a.0 (omega arith)) (spelled_two e (omega arith) a.1) (two_short f e p.0 a.1 a.2)
    | inr r ↦ elim r [
      | inl a ↦ short_by f e _ _ (spelled_three f a.0 (omega arith)) (spelled_three e (omega arith) (omega arith))
          (three_short f e p.0 (omega arith) a.2)
      | inr r ↦ elim r [
        | inl a ↦ short_by f e _ _ (spelled_three f (omega arith) (omega arith)) (spelled_three e (omega arith) a.1)
            (three_short f e p.0 a.1 a.2)
        | inr a ↦ short_by f e _ _ (spelled_four f a.0) (spelled_four e (omega arith)) (four_short f e p.0 a.1 a.2)
      ]
    ]
  ]
]

pub sequence_short : (lo hi i : ℕ) (rs : List (ℕ × ℕ)) → slice_get (utf8_sequences lo hi) i ≡ Some rs → IsShort rs
sequence_short lo hi i rs e =
    let p = piece_at lo hi i rs e in
    let k = at_place lo hi (pieces lo hi) i p.0 (rises (hi + 1 - lo) lo hi) p.1 in
    subst IsShort p.2 (piece_short p.0.0 p.0.1 k.2)
