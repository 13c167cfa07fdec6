-- The sequences of pieces that ascend: each comes after the one before it.
use Rattle.std.proofs.Common.{◌≡◌, ℕ, ◌+◌, ◌/◌, ◌%◌, ◌<◌, ◌≤◌, ◌⊎◌, inl, inr, List, [], ◌∷◌, sym, ap, ap₂, subst, ◌∙◌, arith}
use Rattle.std.specs.List.{zip}
use Rattle.std.proofs.lemmas.Bool.{cases_lt}
use Rattle.hir_core.specs.Sequences.{byte_ranges}
use Rattle.hir_core.specs.Pieces.{Aligned, Blocks, IsPiece}
use Rattle.thompson_nfa.specs.RangeTries.{IsBefore}
use Rattle.hir_core.proofs.ForCallers.{spelled_one, spelled_two, spelled_three, spelled_four}

-- ---- spellings by their length

abbrev two : ℕ → List ℕ
two c = (192 + c / 64) ∷ (128 + c % 64) ∷ []

abbrev three : ℕ → List ℕ
three c = (224 + c / 4096) ∷ (128 + (c / 64) % 64) ∷ (128 + c % 64) ∷ []

abbrev four : ℕ → List ℕ
four c = (240 + c / 262144) ∷ (128 + (c / 4096) % 64) ∷ (128 + (c / 64) % 64) ∷ (128 + c % 64) ∷ []

-- ---- pieces by the length of their spellings

pub data Kind (f e : ℕ) : Type 0 where
  one_byte : f ≤ e → e ≤ 0x7F → byte_ranges (f, e) ≡ (f, e) ∷ [] → Kind f e
  two_bytes : f ≤ e → 0x80 ≤ f → e ≤ 0x7FF → Blocks f e → byte_ranges (f, e) ≡ zip (two f) (two e) → Kind f e
  three_bytes : f ≤ e → 0x800 ≤ f → e ≤ 0xFFFF → Blocks f e → byte_ranges (f, e) ≡ zip (three f) (three e) → Kind f e
  four_bytes : f ≤ e → 0x10000 ≤ f → e ≤ 0x10FFFF → Blocks f e → byte_ranges (f, e) ≡ zip (four f) (four e) → Kind f e

kind_of : (f e : ℕ) → IsPiece f e → Kind f e
kind_of f e p = elim p.1 [
  | inl a ↦ let l = p.0 in one_byte p.0 a (ap₂ zip (spelled_one f (omega arith)) (spelled_one e a))
  | inr r ↦ elim r [
    | inl a ↦ let l = p.0 in let h = a.1 in two_bytes p.0 a.0 a.1 a.2 (ap₂ zip (spelled_two f a.0 (omega arith))
        (spelled_two e (let k = a.0 in omega arith) a.1))
    | inr r ↦ elim r [
      | inl a ↦ let l = p.0 in let k = a.0 in let h = a.1 in three_bytes p.0 (omega arith) (omega arith) a.2
          (ap₂ zip (spelled_three f (omega arith) (omega arith)) (spelled_three e (omega arith) (omega arith)))
      | inr r ↦ elim r [
        | inl a ↦ let l = p.0 in let k = a.0 in let h = a.1 in three_bytes p.0 (omega arith) (omega arith) a.2
            (ap₂ zip (spelled_three f (omega arith) (omega arith)) (spelled_three e (omega arith) (omega arith)))
        | inr a ↦ let l = p.0 in let k = a.0 in let h = a.1 in four_bytes p.0 (omega arith) (omega arith) a.2
            (ap₂ zip (spelled_four f (omega arith)) (spelled_four e (omega arith)))
      ]
    ]
  ]
]

-- ---- two pieces in one block, or in different ones

at_64 : (f e g h : ℕ) → f ≤ e → g ≤ h → e < g → Aligned 64 f e → Aligned 64 g h → (e / 64 < g / 64) ⊎
    ((f / 64 ≡ e / 64) × (g / 64 ≡ h / 64) × (e / 64 ≡ g / 64))
at_64 f e g h l m less a b = elim (cases_lt (e / 64) (g / 64)) [
  | inl c ↦ inl c
  | inr c ↦ elim a [
    | inl s ↦ elim b [ inl t ↦ inr (s, t, omega arith) | inr t ↦ absurd (omega arith) ]
    | inr s ↦ absurd (omega arith)
  ]
]

at_4096 : (f e g h : ℕ) → f ≤ e → g ≤ h → e < g → Aligned 4096 f e → Aligned 4096 g h → (e / 4096 < g / 4096) ⊎
    ((f / 4096 ≡ e / 4096) × (g / 4096 ≡ h / 4096) × (e / 4096 ≡ g / 4096))
at_4096 f e g h l m less a b = elim (cases_lt (e / 4096) (g / 4096)) [
  | inl c ↦ inl c
  | inr c ↦ elim a [
    | inl s ↦ elim b [ inl t ↦ inr (s, t, omega arith) | inr t ↦ absurd (omega arith) ]
    | inr s ↦ absurd (omega arith)
  ]
]

at_262144 : (f e g h : ℕ) → f ≤ e → g ≤ h → e < g → Aligned 262144 f e → Aligned 262144 g h → (e / 262144 < g / 262144) ⊎
    ((f / 262144 ≡ e / 262144) × (g / 262144 ≡ h / 262144) × (e / 262144 ≡ g / 262144))
at_262144 f e g h l m less a b = elim (cases_lt (e / 262144) (g / 262144)) [
  | inl c ↦ inl c
  | inr c ↦ elim a [
    | inl s ↦ elim b [ inl t ↦ inr (s, t, omega arith) | inr t ↦ absurd (omega arith) ]
    | inr s ↦ absurd (omega arith)
  ]
]

abbrev range : ℕ → ℕ → ℕ × ℕ
range a b = (a, b)

same_range : (a b c d : ℕ) → a ≡ c → b ≡ d → range a b ≡ range c d
same_range a b c d e f = ap₂ range e f

-- the last range, in one block
last_before : (f e g h : ℕ) → e < g → e / 64 ≡ g / 64 → IsBefore ((128 + f % 64, 128 + e % 64) ∷ []) ((128 + g % 64, 128 + h % 64) ∷ [])
last_before f e g h less same = inl (omega arith)

two_before : (f e g h : ℕ) → f ≤ e → g ≤ h → e < g → Blocks f e → Blocks g h → IsBefore (zip (two f) (two e)) (zip (two g) (two h))
two_before f e g h l m less a b = elim (at_64 f e g h l m less a.0 b.0) [
  | inl c ↦ inl (omega arith)
  | inr c ↦ let x = c.0 in let y = c.1 in let z = c.2 in
      inr (same_range (192 + f / 64) (192 + e / 64) (192 + g / 64) (192 + h / 64) (omega arith) (omega arith), last_before f e g h less c.2)
]

-- the last two ranges, in one block of 4096
rest_before : (f e g h : ℕ) → f ≤ e → g ≤ h → e < g → Aligned 64 f e → Aligned 64 g h → e / 4096 ≡ g / 4096 →
    IsBefore ((128 + (f / 64) % 64, 128 + (e / 64) % 64) ∷ (128 + f % 64, 128 + e % 64) ∷ []) ((
      128 + (g / 64) % 64,
      128 + (h / 64) % 64,
    ) ∷ (128 + g % 64, 128 + h % 64) ∷ [])
rest_before f e g h l m less a b same = elim (at_64 f e g h l m less a b) [
  | inl c ↦ inl (omega arith)
  | inr c ↦
      let p : f / 64 ≡ g / 64 = c.0 ∙ c.2 in
      let q : e / 64 ≡ h / 64 = c.2 ∙ c.1 in
      inr (
        same_range (128 + (f / 64) % 64) (128 + (e / 64) % 64) (128 + (g / 64) % 64) (128 + (h / 64) % 64) (ap (λ k. 128 + k % 64) p)
            (ap (λ k. 128 + k % 64) q),
        last_before f e g h less c.2,
      )
]

three_before : (f e g h : ℕ) → f ≤ e → g ≤ h → e < g → Blocks f e → Blocks g h →
    IsBefore (zip (three f) (three e)) (zip (three g) (three h))
three_before f e g h l m less a b = elim (at_4096 f e g h l m less a.1 b.1) [
  | inl c ↦ inl (omega arith)
  | inr c ↦ let x = c.0 in let y = c.1 in let z = c.2 in
      inr (
        same_range (224 + f / 4096) (224 + e / 4096) (224 + g / 4096) (224 + h / 4096) (omega arith) (omega arith),
        rest_before f e g h l m less a.0 b.0 c.2,
      )
]

-- the last three, in one block of 262144
later_before : (f e g h : ℕ) → f ≤ e → g ≤ h → e < g → Blocks f e → Blocks g h → e / 262144 ≡ g / 262144 →
    IsBefore ((128 + (f / 4096) % 64, 128 + (e / 4096) % 64) ∷ (128 + (f / 64) % 64, 128 + (e / 64) % 64) ∷ (
      128 + f % 64,
      128 + e % 64,
    ) ∷ [])
    ((128 + (g / 4096) % 64, 128 + (h / 4096) % 64) ∷ (128 + (g / 64) % 64, 128 + (h / 64) % 64) ∷ (128 + g % 64, 128 + h % 64) ∷ [])
later_before f e g h l m less a b same = elim (at_4096 f e g h l m less a.1 b.1) [
  | inl c ↦ inl (omega arith)
  | inr c ↦
      let p : f / 4096 ≡ g / 4096 = c.0 ∙ c.2 in
      let q : e / 4096 ≡ h / 4096 = c.2 ∙ c.1 in
      inr (
        same_range (128 + (f / 4096) % 64) (128 + (e / 4096) % 64) (128 + (g / 4096) % 64) (128 + (h / 4096) % 64)
            (ap (λ k. 128 + k % 64) p) (ap (λ k. 128 + k % 64) q),
        rest_before f e g h l m less a.0 b.0 c.2,
      )
]

four_before : (f e g h : ℕ) → f ≤ e → g ≤ h → e < g → Blocks f e → Blocks g h → IsBefore (zip (four f) (four e)) (zip (four g) (four h))
four_before f e g h l m less a b = elim (at_262144 f e g h l m less a.2 b.2) [
  | inl c ↦ inl (omega arith)
  | inr c ↦ let x = c.0 in let y = c.1 in let z = c.2 in
      inr (
        same_range (240 + f / 262144) (240 + e / 262144) (240 + g / 262144) (240 + h / 262144) (omega arith) (omega arith),
        later_before f e g h l m less a b c.2,
      )
]

before_by : (p q us vs : List (ℕ × ℕ)) → p ≡ us → q ≡ vs → IsBefore us vs → IsBefore p q
before_by p q us vs a b k =
    let P : List (ℕ × ℕ) → Type 0 = λ l. IsBefore l q in
    let Q : List (ℕ × ℕ) → Type 0 = λ l. IsBefore us l in
    subst P (sym a) (subst Q (sym b) k)

kinds_before : (f e g h : ℕ) → e < g → Kind f e → Kind g h → IsBefore (byte_ranges (f, e)) (byte_ranges (g, h))
kinds_before f e g h less (one_byte l m p) (one_byte x y q) = before_by (byte_ranges (f, e)) (byte_ranges (g, h)) _ _ p q (inl less)
kinds_before f e g h less (one_byte l m p) (two_bytes x y z b q) = before_by (byte_ranges (f, e)) (byte_ranges (g, h)) _ _ p q
    (inl (omega arith))
kinds_before f e g h less (one_byte l m p) (three_bytes x y z b q) = before_by (byte_ranges (f, e)) (byte_ranges (g, h)) _ _ p q
    (inl (omega arith))
kinds_before f e g h less (one_byte l m p) (four_bytes x y z b q) = before_by (byte_ranges (f, e)) (byte_ranges (g, h)) _ _ p q
    (inl (omega arith))
kinds_before f e g h less (two_bytes l m n a p) (one_byte x y q) = absurd (omega arith)
kinds_before f e g h less (two_bytes l m n a p) (two_bytes x y z b q) =
    before_by (byte_ranges (f, e)) (byte_ranges (g, h)) _ _ p q (two_before f e g h l x less a b)
kinds_before f e g h less (two_bytes l m n a p) (three_bytes x y z b q) =
    before_by (byte_ranges (f, e)) (byte_ranges (g, h)) _ _ p q (inl (omega arith))
kinds_before f e g h less (two_bytes l m n a p) (four_bytes x y z b q) =
    before_by (byte_ranges (f, e)) (byte_ranges (g, h)) _ _ p q (inl (omega arith))
kinds_before f e g h less (three_bytes l m n a p) (one_byte x y q) = absurd (omega arith)
kinds_before f e g h less (three_bytes l m n a p) (two_bytes x y z b q) = absurd (omega arith)
kinds_before f e g h less (three_bytes l m n a p) (three_bytes x y z b q) =
    before_by (byte_ranges (f, e)) (byte_ranges (g, h)) _ _ p q (three_before f e g h l x less a b)
kinds_before f e g h less (three_bytes l m n a p) (four_bytes x y z b q) =
    before_by (byte_ranges (f, e)) (byte_ranges (g, h)) _ _ p q (inl (omega arith))
kinds_before f e g h less (four_bytes l m n a p) (one_byte x y q) = absurd (omega arith)
kinds_before f e g h less (four_bytes l m n a p) (two_bytes x y z b q) = absurd (omega arith)
kinds_before f e g h less (four_bytes l m n a p) (three_bytes x y z b q) = absurd (omega arith)
kinds_before f e g h less (four_bytes l m n a p) (four_bytes x y z b q) =
    before_by (byte_ranges (f, e)) (byte_ranges (g, h)) _ _ p q (four_before f e g h l x less a b)

pub pieces_before : (f e g h : ℕ) → IsPiece f e → IsPiece g h → e < g → IsBefore (byte_ranges (f, e)) (byte_ranges (g, h))
pieces_before f e g h p q less = kinds_before f e g h less (kind_of f e p) (kind_of g h q)
