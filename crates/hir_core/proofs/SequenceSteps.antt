-- What the code of the sequences does at each step.
use Rattle.std.proofs.Common.{◌≡◌, ℕ, zero, suc, ◌+◌, ◌-◌, ◌*◌, ◌/◌, ◌%◌, ◌<◌, ◌≤◌, inl, inr, Bool, true, false, ◌&&◌, min, get_or, List}
use Rattle.std.proofs.Common.{[], ◌∷◌, ◌++◌, length, map, reverse, drop, refl, sym, ap, ◌∙◌, arith, lit<, length-drop}
use Rattle.std.specs.Int.{is_in_range}
use Rattle.std.proofs.lemmas.Bool.{cond-true, cond-false, le-leb, lt-leb, cases_lt}
use Rattle.std.proofs.lemmas.Bool.Decides.{eqb_tells, nat_tests}
use Rattle.std.proofs.lemmas.List.{drop_more, nil_from_length, reverse-append}
use Rattle.std.proofs.lemmas.Nat.{mul-le}
use Rattle.std.proofs.Math.Nat.{div-add-mod, mod-lt}
use Rattle.hir_core.specs.declared.utf8_sequences.Utf8Range.{Utf8Range}
use Rattle.hir_core.specs.Sequences.{scalar_from, row_end, block_end, piece_end, pieces_of, pieces, byte_ranges, utf8_sequences, bytes_of}
use Rattle.hir_core.specs.Sequences.{begins_in_ranges}

-- ---- whether bytes begin in the ranges, from index i on
module _ (rs : List Utf8Range) (bs : List ℕ) (i : ℕ) (all : Bool) (e : all ≡ begins_in_ranges (map bytes_of (drop i rs)) (drop i bs)) where
  pub begins_past : length rs ≤ i → all ≡ true
  begins_past l = e ∙ ap (λ x. begins_in_ranges (map bytes_of x) (drop i bs))
      (nil_from_length (drop i rs) (omega (arith, length-drop i rs)))

  module _ (d : Utf8Range) (l : i < length rs) where
    pub begins_ended : length bs ≤ i → all ≡ false
    begins_ended p =
        e ∙ ap (λ x. begins_in_ranges (map bytes_of x) (drop i bs)) (drop_more rs i d l)
        ∙ ap (begins_in_ranges (map bytes_of (get_or rs i d ∷ drop (i + 1) rs)))
        (nil_from_length (drop i bs) (omega (arith, length-drop i bs)))

    pub begins_more : i < length bs →
        all ≡ (is_in_range (get_or rs i d).start (get_or rs i d).end (get_or bs i 0)
        && begins_in_ranges (map bytes_of (drop (i + 1) rs)) (drop (i + 1) bs))
    begins_more p =
        e ∙ ap (λ x. begins_in_ranges (map bytes_of x) (drop i bs)) (drop_more rs i d l)
        ∙ ap (begins_in_ranges (map bytes_of (get_or rs i d ∷ drop (i + 1) rs))) (drop_more bs i 0 p)

-- ---- reversed ranges
map_append : (xs ys : List Utf8Range) → map bytes_of (xs ++ ys) ≡ map bytes_of xs ++ map bytes_of ys
map_append [] ys = refl
map_append (x ∷ xs) ys = ap (λ l. bytes_of x ∷ l) (map_append xs ys)

pub ranges_turned : (rs : List Utf8Range) → map bytes_of (reverse rs) ≡ reverse (map bytes_of rs)
ranges_turned [] = refl
ranges_turned (r ∷ rs) =
    ap (map bytes_of) (reverse-append (r ∷ []) rs) ∙ map_append (reverse rs) (r ∷ []) ∙ ap (λ l. l ++ (bytes_of r ∷ [])) (ranges_turned rs)
    ∙ sym (reverse-append (bytes_of r ∷ []) (map bytes_of rs))

-- ---- the ends of pieces
above : (a b : ℕ) → b ≤ a → (a ≡ b → ⊥) → b < a
above a b l n = elim (cases_lt b a) [ inl x ↦ x | inr y ↦ absurd (n (omega arith)) ]

next_multiple : (m a b : ℕ) → a < b → m * a + m ≤ m * b
next_multiple m a b l = let h = mul-le m (a + 1) m b (omega arith) (omega arith) in grind arith

mod_below : (n m : ℕ) → 0 < m → n % m < m
mod_below n m h = mod-lt n h

module _ (size lo hi : ℕ) (some : 0 < size) (ordered : lo ≤ hi) (other : lo / size ≡ hi / size → ⊥) where
  pub blocks_apart : size * (lo / size) + size ≤ size * (hi / size)
  blocks_apart = elim (cases_lt (lo / size) (hi / size)) [
    | inl l ↦ next_multiple size (lo / size) (hi / size) l
    | inr g ↦
        let m = next_multiple size (hi / size) (lo / size) (above (lo / size) (hi / size) g other) in
        absurd (omega (arith, m, div-add-mod lo size, div-add-mod hi size, mod_below hi size some))
  ]

  pub block_below : lo ≤ hi - hi % size - 1
  block_below = omega (arith, blocks_apart, div-add-mod lo size, div-add-mod hi size, mod_below lo size some)

  pub block_above : lo - lo % size + (size - 1) ≤ hi
  block_above = omega (arith, blocks_apart, div-add-mod lo size, div-add-mod hi size, mod_below lo size some)

-- the first piece ends between its start and the end of all
between : (size lo hi : ℕ) → 0 < size → lo ≤ hi → (lo ≤ block_end size lo hi) × (block_end size lo hi ≤ hi)
between size lo hi some ordered = elim (eqb_tells (lo / size) (hi / size)) [
  | inl same ↦ let e : block_end size lo hi ≡ hi = cond-true _ hi _ same.0 in (omega (arith, e), omega (arith, e))
  | inr other ↦ elim (eqb_tells (lo % size) 0) [
    | inl whole ↦ elim (eqb_tells (hi % size) (size - 1)) [
      | inl last ↦ let e : block_end size lo hi ≡ hi = cond-false _ _ _ other.0 ∙ cond-true _ _ _ whole.0 ∙ cond-true _ hi _ last.0 in
          (omega (arith, e), omega (arith, e))
      | inr not_last ↦
          let e : block_end size lo hi ≡ hi - hi % size - 1 = cond-false _ _ _ other.0 ∙ cond-true _ _ _ whole.0
          ∙ cond-false _ hi _ not_last.0 in
          (omega (arith, e, block_below size lo hi some ordered other.1), omega (arith, e))
    ]
    | inr part ↦
        let e : block_end size lo hi ≡ lo - lo % size + (size - 1) = cond-false _ _ _ other.0 ∙ cond-false _ _ _ part.0 in
        (omega (arith, e, mod_below lo size some), omega (arith, e, block_above size lo hi some ordered other.1))
  ]
]

row_holds : (c : ℕ) → c ≤ 0x10FFFF → c ≤ row_end c
row_holds c high = grind (arith, nat_tests)

pub piece_between : (lo hi : ℕ) → lo ≤ hi → lo ≤ 0x10FFFF → (lo ≤ piece_end lo hi) × (piece_end lo hi ≤ hi)
piece_between lo hi ordered high = elim (cases_lt lo 0x80) [
  | inl ascii ↦ let e : piece_end lo hi ≡ min hi 0x7F = cond-true _ (min hi 0x7F) _ (le-leb lo 0x7F (omega arith)) in
      (omega (arith, e), omega (arith, e))
  | inr more ↦
      let last = min hi (row_end lo) in
      let r = row_holds lo high in
      let a = between 64 lo last (lit< tt) (omega arith) in
      let b = between 4096 lo (block_end 64 lo last) (lit< tt) a.0 in
      let d = between 262144 lo (block_end 4096 lo (block_end 64 lo last)) (lit< tt) b.0 in
      let e : piece_end lo hi ≡ block_end 262144 lo (block_end 4096 lo (block_end 64 lo last)) =
      cond-false _ (min hi 0x7F) _ (lt-leb lo 0x7F (omega arith)) in
      (omega (arith, e, d.0), omega (arith, e, d.1, b.1, a.1))
]

-- ---- the pieces left
pub scalar_above : (n : ℕ) → n ≤ scalar_from n
scalar_above n = grind (arith, nat_tests)

pub never : false ≡ true → ⊥
never e = grind arith

by_test : (t : Bool) (x : List (ℕ × ℕ)) → t ≡ true → elim t as (λ _. List (ℕ × ℕ)) [ true ↦ x | false ↦ [] ] ≡ x
by_test true x e = refl
by_test false x e = absurd (never e)

by_fault : (t : Bool) (x : List (ℕ × ℕ)) → t ≡ false → elim t as (λ _. List (ℕ × ℕ)) [ true ↦ x | false ↦ [] ] ≡ []
by_fault true x e = absurd (never (sym e))
by_fault false x e = refl

pub pieces_first : (most lo hi : ℕ) → scalar_from lo ≤ min hi 0x10FFFF →
    pieces_of (suc most) lo hi ≡ (scalar_from lo, piece_end (scalar_from lo) hi) ∷ pieces_of most (piece_end (scalar_from lo) hi + 1) hi
pieces_first most lo hi l = by_test _ _ (le-leb (scalar_from lo) (min hi 0x10FFFF) l)

pub pieces_none : (most lo hi : ℕ) → min hi 0x10FFFF < scalar_from lo → pieces_of most lo hi ≡ []
pieces_none zero lo hi l = refl
pieces_none (suc most) lo hi l = by_fault _ _ (lt-leb (scalar_from lo) (min hi 0x10FFFF) l)

-- how many pieces are allowed makes no difference, if it is enough
enough : (f g lo hi : ℕ) → hi + 1 - lo ≤ f → hi + 1 - lo ≤ g → pieces_of f lo hi ≡ pieces_of g lo hi
enough zero g lo hi a b = sym (pieces_none g lo hi (omega (arith, scalar_above lo)))
enough (suc f) zero lo hi a b = pieces_none (suc f) lo hi (omega (arith, scalar_above lo))
enough (suc f) (suc g) lo hi a b = elim (cases_lt (min hi 0x10FFFF) (scalar_from lo)) [
  | inl none ↦ pieces_none (suc f) lo hi none ∙ sym (pieces_none (suc g) lo hi none)
  | inr l ↦
      let p = piece_between (scalar_from lo) hi (omega arith) (omega arith) in
      let s = scalar_above lo in
      pieces_first f lo hi l
      ∙ ap (λ ps. (scalar_from lo, piece_end (scalar_from lo) hi) ∷ ps)
      (enough f g (piece_end (scalar_from lo) hi + 1) hi (omega arith) (omega arith))
      ∙ sym (pieces_first g lo hi l)
]

pub pieces_step : (lo hi : ℕ) → scalar_from lo ≤ hi → hi ≤ 0x10FFFF →
    pieces lo hi ≡ (scalar_from lo, piece_end (scalar_from lo) hi) ∷ pieces (piece_end (scalar_from lo) hi + 1) hi
pieces_step lo hi l high =
    let p = piece_between (scalar_from lo) hi l (omega arith) in
    let s = scalar_above lo in
    enough (hi + 1 - lo) (suc (hi + 1 - lo)) lo hi (omega arith) (omega arith)
    ∙ pieces_first (hi + 1 - lo) lo hi (omega arith)
    ∙ ap (λ ps. (scalar_from lo, piece_end (scalar_from lo) hi) ∷ ps) (enough (hi + 1 - lo) _ (piece_end (scalar_from lo) hi + 1) hi
    (omega arith) (omega arith))

pub sequences_step : (lo hi : ℕ) → scalar_from lo ≤ hi → hi ≤ 0x10FFFF →
    utf8_sequences lo hi ≡ byte_ranges (scalar_from lo, piece_end (scalar_from lo) hi) ∷ utf8_sequences
    (piece_end (scalar_from lo) hi + 1) hi
sequences_step lo hi l high = ap (map byte_ranges) (pieces_step lo hi l high)

pub sequences_none : (lo hi : ℕ) → hi < scalar_from lo → utf8_sequences lo hi ≡ []
sequences_none lo hi l = ap (map byte_ranges) (pieces_none (hi + 1 - lo) lo hi (omega arith))
