-- An offset strictly inside a spelling has bytes on both sides, and no character ends or begins there.
use Rattle.std.proofs.Common.{◌≡◌, ℕ, zero, suc, ◌+◌, ◌-◌, ◌<◌, ◌≤◌, inl, inr, true, false, Bool, List, ◌++◌, length, get_or, Option, Some}
use Rattle.std.proofs.Common.{None, sym, ap, subst, ◌∙◌, arith, length-append}
use Rattle.std.proofs.lemmas.Bool.{cond-false, cond-true, cases_lt, cases_eq, lt-leb, le-leb}
use Rattle.std.proofs.lemmas.List.{get_or_append_left}
use Rattle.std.proofs.Math.Seq.{get_or-append_right}
use Rattle.std.proofs.lemmas.Option.{slice_get-get_or}
use Rattle.search_core.specs.Text.{byte_at, byte_before}
use Rattle.search_core.specs.Utf8.{IsContinuation, Spells}
use Rattle.search_core.specs.Characters.{one_byte, two_bytes, three_bytes, four_bytes, character_at, character_before, ending_at}
use Rattle.search_core.proofs.ForCallers.{Leads, spelling_leads, spelling_tails}
use Rattle.look_core.specs.Looks.{broken, by_characters, holds}
use Rattle.look_core.specs.Terminators.{Terminator}
use Rattle.look_core.specs.Codes.{is_word_unicode}
use Rattle.look_core.specs.declared.look.Look.{Look}
use Rattle.look_core.specs.declared.look.Look.TheVariants.{Start, End, StartLF, EndLF, StartCRLF, EndCRLF, WordAscii, WordAsciiNegate}
use Rattle.look_core.specs.declared.look.Look.TheVariants.{WordUnicode, WordUnicodeNegate, WordStartAscii, WordEndAscii, WordStartUnicode}
use Rattle.look_core.specs.declared.look.Look.TheVariants.{WordEndUnicode, WordStartHalfAscii, WordEndHalfAscii, WordStartHalfUnicode}
use Rattle.look_core.specs.declared.look.Look.TheVariants.{WordEndHalfUnicode}
use Rattle.look_core.proofs.ReadLemmas.{no_one, no_two_lead, no_two_next, no_three_lead, no_three_next, no_three_last, no_four_lead}
use Rattle.look_core.proofs.ReadLemmas.{no_four_next, no_four_third, no_four_last, none_of_four}

-- what a lead says if more bytes follow it
lead_two : (a n : ℕ) → Leads a n → 1 < n → 0xC2 ≤ a
lead_two a n h l = grind arith

lead_three : (a n : ℕ) → Leads a n → 2 < n → 0xE0 ≤ a
lead_three a n h l = grind arith

lead_four : (a n : ℕ) → Leads a n → 3 < n → 0xF0 ≤ a
lead_four a n h l = grind arith

lead_most : (a n : ℕ) → Leads a n → n ≤ 4
lead_most a n h = grind arith

-- what ends at i is read from i - n on
ends_none : (n : ℕ) (f : List ℕ → ℕ → Option ℕ) (h : List ℕ) (i : ℕ) → (n ≤ i → f h (i - n) ≡ None) → ending_at n f h i ≡ None
ends_none n f h i e = elim (cases_lt i n) [
  | inl l ↦ cond-false _ _ _ (lt-leb n i l)
  | inr l ↦ cond-true _ _ _ (le-leb n i l) ∙ e l
]

pub before_some : (h : List ℕ) (i : ℕ) → 0 < i → i ≤ length h → byte_before h i ≡ Some (get_or h (i - 1) 0)
before_some h zero l m = absurd (omega arith)
before_some h (suc i) l m = let e : suc i - 1 ≡ i = omega arith in rw e (slice_get-get_or h i 0 (omega arith))

-- a spelling of n bytes is at p, and i lies inside it
module _ (h : List ℕ) (p n i : ℕ) (lead : Leads (get_or h p 0) n)
    (tails : (m : ℕ) → p < m → m < p + n → IsContinuation (get_or h m 0)) (above : p < i) (below : i < p + n) where
  pub inside_at : character_at h i ≡ None
  inside_at =
      let t = tails i above below in
      none_of_four _ _ _ _ (no_one h i t.0) (no_two_lead h i (inl (omega arith))) (no_three_lead h i (inl (omega arith)))
      (no_four_lead h i (inl (omega arith)))

  lead_at : (k : ℕ) → k ≡ p → 0xC2 ≤ get_or h k 0
  lead_at k e = subst (λ (j : ℕ). 0xC2 ≤ get_or h j 0) (sym e) (lead_two _ n lead (omega arith))

  inside_one : one_byte h (i - 1) ≡ None
  inside_one = no_one h (i - 1) (elim (cases_eq (i - 1) p) [
    | inl e ↦ omega (arith, lead_at (i - 1) e)
    | inr d ↦ omega (arith, tails (i - 1) (omega arith) (omega arith))
  ])

  inside_two : 2 ≤ i → two_bytes h (i - 2) ≡ None
  inside_two l = elim (cases_eq (i - 2 + 1) p) [
    | inl e ↦ no_two_next h (i - 2) (inr (omega (arith, lead_at (i - 2 + 1) e)))
    | inr d ↦ elim (cases_eq (i - 2) p) [
      | inl e ↦ no_two_lead h (i - 2) (inr (subst (λ (j : ℕ). 0xDF < get_or h j 0) (sym e) (omega (
        arith,
        lead_three _ n lead (omega arith),
      ))))
      | inr o ↦ no_two_lead h (i - 2) (inl (omega (arith, tails (i - 2) (omega arith) (omega arith))))
    ]
  ]

  inside_three : 3 ≤ i → three_bytes h (i - 3) ≡ None
  inside_three l = elim (cases_eq (i - 3 + 2) p) [
    | inl e ↦ no_three_last h (i - 3) (inr (omega (arith, lead_at (i - 3 + 2) e)))
    | inr d ↦ elim (cases_eq (i - 3 + 1) p) [
      | inl e ↦ no_three_next h (i - 3) (inr (omega (arith, lead_at (i - 3 + 1) e)))
      | inr c ↦ elim (cases_eq (i - 3) p) [
        | inl e ↦ no_three_lead h (i - 3) (inr (subst (λ (j : ℕ). 0xEF < get_or h j 0) (sym e) (omega (
          arith,
          lead_four _ n lead (omega arith),
        ))))
        | inr o ↦ no_three_lead h (i - 3) (inl (omega (arith, tails (i - 3) (omega arith) (omega arith))))
      ]
    ]
  ]

  inside_four : 4 ≤ i → four_bytes h (i - 4) ≡ None
  inside_four l = elim (cases_eq (i - 4 + 3) p) [
    | inl e ↦ no_four_last h (i - 4) (inr (omega (arith, lead_at (i - 4 + 3) e)))
    | inr d ↦ elim (cases_eq (i - 4 + 2) p) [
      | inl e ↦ no_four_third h (i - 4) (inr (omega (arith, lead_at (i - 4 + 2) e)))
      | inr c ↦ elim (cases_eq (i - 4 + 1) p) [
        | inl e ↦ no_four_next h (i - 4) (inr (omega (arith, lead_at (i - 4 + 1) e)))
        | inr b ↦ absurd (omega (arith, lead_most _ n lead))
      ]
    ]
  ]

  pub inside_before : character_before h i ≡ None
  inside_before =
      none_of_four _ _ _ _ (ends_none 1 one_byte h i (λ l. inside_one)) (ends_none 2 two_bytes h i inside_two)
      (ends_none 3 three_bytes h i inside_three) (ends_none 4 four_bytes h i inside_four)

  pub inside_broken : (words : ℕ → Bool) → p + n ≤ length h → ((by_characters words).before h i ≡ broken) ×
      ((by_characters words).after h i ≡ broken)
  inside_broken words fits =
      let b : byte_before h i ≡ Some (get_or h (i - 1) 0) = before_some h i (omega arith) (omega arith) in
      let a : byte_at h i ≡ Some (get_or h i 0) = slice_get-get_or h i 0 (omega arith) in
      (rw (b, inside_before), rw (a, inside_at))

-- if both sides are broken no Unicode look holds
broken_fails : (words : ℕ → Bool) (t : Terminator) (h : List ℕ) (l : Look) (i : ℕ) →
    (by_characters words).before h i ≡ broken → (by_characters words).after h i ≡ broken → is_word_unicode l ≡ true →
    holds words t h l i ≡ false
broken_fails words t h Start i p q u = cc
broken_fails words t h End i p q u = cc
broken_fails words t h StartLF i p q u = cc
broken_fails words t h EndLF i p q u = cc
broken_fails words t h StartCRLF i p q u = cc
broken_fails words t h EndCRLF i p q u = cc
broken_fails words t h WordAscii i p q u = cc
broken_fails words t h WordAsciiNegate i p q u = cc
broken_fails words t h WordUnicode i p q u = rw (p, q)
broken_fails words t h WordUnicodeNegate i p q u = rw p
broken_fails words t h WordStartAscii i p q u = cc
broken_fails words t h WordEndAscii i p q u = cc
broken_fails words t h WordStartUnicode i p q u = rw (p, q)
broken_fails words t h WordEndUnicode i p q u = rw p
broken_fails words t h WordStartHalfAscii i p q u = cc
broken_fails words t h WordEndHalfAscii i p q u = cc
broken_fails words t h WordStartHalfUnicode i p q u = rw p
broken_fails words t h WordEndHalfUnicode i p q u = rw q

-- the bytes of a spelling where it lies
at_place : (before s after : List ℕ) (m : ℕ) → length before ≤ m → m < length before + length s →
    get_or (before ++ (s ++ after)) m 0 ≡ get_or s (m - length before) 0
at_place before s after m low high =
    get_or-append_right before (s ++ after) m 0 low ∙ get_or_append_left s after 0 (m - length before) (omega arith)

pub inside_fails : (words : ℕ → Bool) (t : Terminator) (before spelling after : List ℕ) (c : ℕ) (l : Look) (i : ℕ) → Spells c spelling →
    length before < i → i < length before + length spelling → is_word_unicode l ≡ true →
    holds words t (before ++ (spelling ++ after)) l i ≡ false
inside_fails words t before s after c l i k above below u =
    let h : List ℕ = before ++ (s ++ after) in
    let p : ℕ = length before in
    let e : get_or s 0 0 ≡ get_or h p 0 = sym (at_place before s after p (omega arith) (omega arith)
    ∙ ap (λ (j : ℕ). get_or s j 0) (omega arith)) in
    let lead : Leads (get_or h p 0) (length s) = subst (λ (a : ℕ). Leads a (length s)) e (spelling_leads c s k) in
    let tails : (m : ℕ) → p < m → m < p + length s → IsContinuation (get_or h m 0) =
    λ m low high. subst IsContinuation (sym (at_place before s after m (omega arith) high))
    (spelling_tails c s k (m - p) (omega arith) (omega arith)) in
    let fits : p + length s ≤ length h = omega (arith, length-append before (s ++ after), length-append s after) in
    let b = inside_broken h p (length s) i lead tails above below words fits in
    broken_fails words t h l i b.0 b.1 u
