-- Spellings are the bytes that `encode_utf8` gives, and concatenated spellings are what std calls UTF-8.
use Rattle.std.proofs.Common.{◌≡◌, ℕ, ◌+◌, ◌/◌, ◌%◌, ◌<◌, ◌≤◌, inl, inr, true, List, [], ◌∷◌, ◌++◌, IsUtf8, refl, sym, ap, ap₂, subst, ◌∙◌}
use Rattle.std.proofs.Common.{arith, append-nil, lt-ltb, le-ltb}
use Rattle.std.proofs.lemmas.Bool.{cond-true, cond-false, cases_lt, and_parts, and_from}
use Rattle.std.proofs.lemmas.Bool.Decides.{nat_tests}
use Rattle.std.proofs.lemmas.Str.{encode_ascii, encode_same}
use Rattle.std.specs.Char.{IsScalar, InScalarRange, encode_utf8}
use Rattle.std.specs.Int.{IsInRange}
use Rattle.std.specs.Str.{encode_utf8_all, all_scalars}
use Rattle.search_core.specs.Utf8.{IsContinuation, scalar_of_two, scalar_of_three, scalar_of_four, Spells, IsValidText}
use Rattle.search_core.specs.Utf8.Spells.{from_0000, from_0080, from_0800, from_1000, from_d000, from_e000, from_10000, from_40000}
use Rattle.search_core.specs.Utf8.Spells.{from_100000}
use Rattle.search_core.specs.Utf8.IsValidText.{no_spelling, spelling_then}

pub encode_two : (c : ℕ) → 0x80 ≤ c → c < 0x800 → encode_utf8 c ≡ (192 + c / 64) ∷ (128 + c % 64) ∷ []
unfolding encode_utf8
encode_two c low high = cond-false _ _ _ (le-ltb c 128 low) ∙ cond-true _ _ _ (lt-ltb c 2048 high)

pub encode_three : (c : ℕ) → 0x800 ≤ c → c < 0x1_0000 →
    encode_utf8 c ≡ (224 + c / 4096) ∷ (128 + (c / 64) % 64) ∷ (128 + c % 64) ∷ []
unfolding encode_utf8
encode_three c low high =
    cond-false _ _ _ (le-ltb c 128 (omega arith)) ∙ cond-false _ _ _ (le-ltb c 2048 low) ∙ cond-true _ _ _ (lt-ltb c 65536 high)

pub encode_four : (c : ℕ) → 0x1_0000 ≤ c →
    encode_utf8 c ≡ (240 + c / 262144) ∷ (128 + (c / 4096) % 64) ∷ (128 + (c / 64) % 64) ∷ (128 + c % 64) ∷ []
unfolding encode_utf8
encode_four c low =
    cond-false _ _ _ (le-ltb c 128 (omega arith)) ∙ cond-false _ _ _ (le-ltb c 2048 (omega arith)) ∙ cond-false _ _ _ (le-ltb c 65536 low)

pub IsScalar-of_range : (c : ℕ) → InScalarRange c → IsScalar c
IsScalar-of_range c h = grind (arith, nat_tests)

pub range-of_IsScalar : (c : ℕ) → IsScalar c → InScalarRange c
range-of_IsScalar c h = grind (arith, nat_tests)

-- the bytes of a code that was put together from the bits of bytes
two_bytes_of : (a b c : ℕ) → IsInRange 0xC2 0xDF a → IsContinuation b → c ≡ scalar_of_two a b →
    IsScalar c × (encode_utf8 c ≡ a ∷ b ∷ [])
two_bytes_of a b c r t v =
    let lead : 192 + c / 64 ≡ a = omega arith in
    let next : 128 + c % 64 ≡ b = omega arith in
    (IsScalar-of_range c (inl (omega arith)), encode_two c (omega arith) (omega arith) ∙ cc)

three_bytes_of : (a b d c : ℕ) → InScalarRange c → 0x800 ≤ c → IsInRange 0xE0 0xEF a → IsContinuation b → IsContinuation d →
    c ≡ scalar_of_three a b d →
    IsScalar c × (encode_utf8 c ≡ a ∷ b ∷ d ∷ [])
three_bytes_of a b d c s low r t u v =
    let lead : 224 + c / 4096 ≡ a = omega arith in
    let next : 128 + (c / 64) % 64 ≡ b = omega arith in
    let last : 128 + c % 64 ≡ d = omega arith in
    (IsScalar-of_range c s, encode_three c low (omega arith) ∙ cc)

four_bytes_of : (a b d e c : ℕ) → 0x1_0000 ≤ c → c ≤ 0x10_FFFF → IsInRange 0xF0 0xF4 a → IsContinuation b → IsContinuation d →
    IsContinuation e → c ≡ scalar_of_four a b d e →
    IsScalar c × (encode_utf8 c ≡ a ∷ b ∷ d ∷ e ∷ [])
four_bytes_of a b d e c low high r t u w v =
    let lead : 240 + c / 262144 ≡ a = omega arith in
    let next : 128 + (c / 4096) % 64 ≡ b = omega arith in
    let third : 128 + (c / 64) % 64 ≡ d = omega arith in
    let last : 128 + c % 64 ≡ e = omega arith in
    (IsScalar-of_range c (inr (omega arith, high)), encode_four c low ∙ cc)

encodes_by : (c : ℕ) (s t : List ℕ) → s ≡ t → IsScalar c × (encode_utf8 c ≡ t) → IsScalar c × (encode_utf8 c ≡ s)
encodes_by c s t e h = (h.0, h.1 ∙ sym e)

pub spelling_encodes : (c : ℕ) (s : List ℕ) → Spells c s → IsScalar c × (encode_utf8 c ≡ s)
spelling_encodes c s (from_0000 a r e v) =
    encodes_by c s _ e (IsScalar-of_range c (inl (omega arith)), encode_ascii c (omega arith) ∙ ap (λ x. x ∷ []) v)
spelling_encodes c s (from_0080 a b r t e v) = encodes_by c s _ e (two_bytes_of a b c r t v)
spelling_encodes c s (from_0800 a b d r t u e v) =
    encodes_by c s _ e (three_bytes_of a b d c (inl (omega arith)) (omega arith) (omega arith, omega arith) (omega arith, t.1) u v)
spelling_encodes c s (from_1000 a b d r t u e v) =
    encodes_by c s _ e (three_bytes_of a b d c (inl (omega arith)) (omega arith) (omega arith, omega arith) t u v)
spelling_encodes c s (from_d000 a b d r t u e v) =
    encodes_by c s _ e (three_bytes_of a b d c (inl (omega arith)) (omega arith) (omega arith, omega arith) (t.0, omega arith) u v)
spelling_encodes c s (from_e000 a b d r t u e v) =
    encodes_by c s _ e (three_bytes_of a b d c (inr (omega arith, omega arith)) (omega arith) (omega arith, omega arith) t u v)
spelling_encodes c s (from_10000 a b d f r t u w e v) =
    encodes_by c s _ e (four_bytes_of a b d f c (omega arith) (omega arith) (omega arith, omega arith) (omega arith, t.1) u w v)
spelling_encodes c s (from_40000 a b d f r t u w e v) =
    encodes_by c s _ e (four_bytes_of a b d f c (omega arith) (omega arith) (omega arith, omega arith) t u w v)
spelling_encodes c s (from_100000 a b d f r t u w e v) =
    encodes_by c s _ e (four_bytes_of a b d f c (omega arith) (omega arith) (omega arith, omega arith) (t.0, omega arith) u w v)

-- the row of a scalar, by its range
encoded_two : (c : ℕ) (s : List ℕ) → 0x80 ≤ c → c < 0x800 → encode_utf8 c ≡ s → Spells c s
encoded_two c s low high e =
    from_0080 (192 + c / 64) (128 + c % 64) (omega arith, omega arith) (
      omega arith,
      omega arith,
    ) (sym e ∙ encode_two c low high) (omega arith)

module _ (c : ℕ) (s : List ℕ) (low : 0x800 ≤ c) (high : c < 0x1_0000) (e : encode_utf8 c ≡ s) where
  is_three : s ≡ (224 + c / 4096) ∷ (128 + (c / 64) % 64) ∷ (128 + c % 64) ∷ []
  is_three = sym e ∙ encode_three c low high

  value_three : c ≡ scalar_of_three (224 + c / 4096) (128 + (c / 64) % 64) (128 + c % 64)
  value_three = omega arith

  encoded_three : InScalarRange c → Spells c s
  encoded_three r = elim (cases_lt c 0x1000) [
    | inl a ↦ from_0800 _ _ _ (omega arith) (omega arith, omega arith) (omega arith, omega arith) is_three value_three
    | inr b ↦ elim (cases_lt c 0xD000) [
      | inl a ↦ from_1000 _ _ _ (omega arith, omega arith) (omega arith, omega arith) (omega arith, omega arith) is_three value_three
      | inr b ↦ elim r [
        | inl a ↦ from_d000 _ _ _ (omega arith) (omega arith, omega arith) (omega arith, omega arith) is_three value_three
        | inr a ↦ from_e000 _ _ _ (omega arith, omega arith) (omega arith, omega arith) (omega arith, omega arith) is_three value_three
      ]
    ]
  ]

module _ (c : ℕ) (s : List ℕ) (low : 0x1_0000 ≤ c) (high : c ≤ 0x10_FFFF) (e : encode_utf8 c ≡ s) where
  is_four : s ≡ (240 + c / 262144) ∷ (128 + (c / 4096) % 64) ∷ (128 + (c / 64) % 64) ∷ (128 + c % 64) ∷ []
  is_four = sym e ∙ encode_four c low

  value_four : c ≡ scalar_of_four (240 + c / 262144) (128 + (c / 4096) % 64) (128 + (c / 64) % 64) (128 + c % 64)
  value_four = omega arith

  encoded_four : Spells c s
  encoded_four = elim (cases_lt c 0x4_0000) [
    | inl a ↦ from_10000 _ _ _ _ (omega arith) (omega arith, omega arith) (omega arith, omega arith) (
      omega arith,
      omega arith,
    ) is_four value_four
    | inr b ↦ elim (cases_lt c 0x10_0000) [
      | inl a ↦ from_40000 _ _ _ _ (omega arith, omega arith) (omega arith, omega arith) (omega arith, omega arith) (
        omega arith,
        omega arith,
      ) is_four value_four
      | inr b ↦ from_100000 _ _ _ _ (omega arith) (omega arith, omega arith) (omega arith, omega arith) (
        omega arith,
        omega arith,
      ) is_four value_four
    ]
  ]

encoded_high : (c : ℕ) (s : List ℕ) → 0x800 ≤ c → InScalarRange c → encode_utf8 c ≡ s → Spells c s
encoded_high c s low r e = elim (cases_lt c 0x1_0000) [
  | inl three ↦ encoded_three c s low three e r
  | inr four ↦ encoded_four c s four (elim r [ inl a ↦ omega arith | inr a ↦ a.1 ]) e
]

pub encoded_spells : (c : ℕ) (s : List ℕ) → IsScalar c → encode_utf8 c ≡ s → Spells c s
encoded_spells c s scalar e =
    let r = range-of_IsScalar c scalar in
    elim (cases_lt c 0x80) [
      | inl one ↦ from_0000 c (omega arith, omega arith) (sym e ∙ encode_ascii c one) refl
      | inr more ↦ elim (cases_lt c 0x800) [
        | inl two ↦ encoded_two c s more two e
        | inr high ↦ encoded_high c s high r e
      ]
    ]

-- concatenated spellings
pub utf8_of_valid : (bytes : List ℕ) → IsValidText bytes → IsUtf8 bytes
utf8_of_valid bytes (no_spelling _ e) = ([], (refl, sym e))
utf8_of_valid bytes (spelling_then c s rest _ h v e) =
    let u = utf8_of_valid rest v in
    let k = spelling_encodes c s h in
    (c ∷ u.0, (and_from _ _ k.0 u.1.0, ap₂ (λ (x y : List ℕ). x ++ y) k.1 u.1.1 ∙ sym e))

valid_encodes : (cs : List ℕ) → all_scalars cs ≡ true → IsValidText (encode_utf8_all cs)
valid_encodes [] h = no_spelling [] refl
valid_encodes (c ∷ cs) h =
    let p = and_parts _ _ h in
    spelling_then c (encode_utf8 c) (encode_utf8_all cs) _ (encoded_spells c _ p.0 refl) (valid_encodes cs p.1) refl

pub valid_of_utf8 : (bytes : List ℕ) → IsUtf8 bytes → IsValidText bytes
valid_of_utf8 bytes u = subst IsValidText u.1.1 (valid_encodes u.0 u.1.0)

-- two spellings at one offset are one
pub heads_same : (c d : ℕ) (s t x y : List ℕ) → Spells c s → Spells d t → s ++ x ≡ t ++ y → (c ≡ d) × (s ≡ t) × (x ≡ y)
heads_same c d s t x y h k e =
    let p = spelling_encodes c s h in
    let q = spelling_encodes d t k in
    let m = encode_same c d x y (ap (λ l. l ++ x) p.1 ∙ e ∙ sym (ap (λ l. l ++ y) q.1)) in
    (m.0, sym p.1 ∙ ap encode_utf8 m.0 ∙ q.1, m.1)

pub one_spelling : (c : ℕ) (s t : List ℕ) → Spells c s → Spells c t → s ≡ t
one_spelling c s t h k = sym (spelling_encodes c s h).1 ∙ (spelling_encodes c t k).1

pub one_scalar : (c d : ℕ) (s : List ℕ) → Spells c s → Spells d s → c ≡ d
one_scalar c d s h k = (heads_same c d s s [] [] h k refl).0

pub no_beginning : (c d : ℕ) (s t : List ℕ) → Spells c s → Spells d (s ++ t) → t ≡ []
no_beginning c d s t h k = (heads_same c d s (s ++ t) t [] h k (sym (append-nil (s ++ t)))).2
