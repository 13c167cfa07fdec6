-- Strings turned round, and the spellings of scalars turned round: none of them is a proper prefix of another.
use Rattle.std.proofs.Common.{◌≡◌, inl, inr, ℕ, suc, ◌≤◌, List, [], ◌∷◌, ◌++◌, reverse, slice_get, Some, true, refl, sym, ap₂, ◌∙◌, arith}
use Rattle.std.proofs.Common.{subst}
use Rattle.std.proofs.lemmas.Bool.{false≢true}
use Rattle.std.proofs.lemmas.List.{reverse-append, reverse-reverse}
use Rattle.search_core.specs.Utf8.{Spells}
use Rattle.search_core.specs.Utf8.Spells.{from_0000, from_0080, from_0800, from_1000, from_d000, from_e000, from_10000, from_40000}
use Rattle.search_core.specs.Utf8.Spells.{from_100000}
use Rattle.hir_core.specs.Sequences.{is_in_ranges, utf8_sequences}
use Rattle.hir_core.proofs.ForCallers.{string_is_spelling}
use Rattle.thompson_nfa.specs.RangeTries.{IsInSome, IsApart}
use Rattle.thompson_nfa.specs.ClassTries.{turned_round, IsTurnedSpelling, AreTurnedSpellings}
use Rattle.thompson_nfa.proofs.Tries.TrieLemmas.{spelled, spells}

-- ---- strings of sequences turned round

-- one more byte in one more range
in_push : (q : List (ℕ × ℕ)) (s : List ℕ) (r : ℕ × ℕ) (b : ℕ) → is_in_ranges q s ≡ true → is_in_ranges (r ∷ []) (b ∷ []) ≡ true →
    is_in_ranges (q ++ r ∷ []) (s ++ b ∷ []) ≡ true
in_push [] [] r b e f = f
in_push [] (x ∷ s) r b e f = absurd (false≢true e)
in_push (x ∷ q) [] r b e f = absurd (false≢true e)
in_push (x ∷ q) (y ∷ s) r b e f =
    let p = spelled x q y s e in
    spells x (q ++ r ∷ []) y (s ++ b ∷ []) p.0 p.1 (in_push q s r b p.2 f)

pub in_turned : (q : List (ℕ × ℕ)) (s : List ℕ) → is_in_ranges q s ≡ true → is_in_ranges (reverse q) (reverse s) ≡ true
in_turned [] [] e = refl
in_turned [] (b ∷ s) e = absurd (false≢true e)
in_turned (r ∷ q) [] e = absurd (false≢true e)
in_turned (r ∷ q) (b ∷ s) e =
    let p = spelled r q b s e in
    ap₂ is_in_ranges (reverse-append (r ∷ []) q) (reverse-append (b ∷ []) s)
    ∙ in_push (reverse q) (reverse s) r b (in_turned q s p.2) (spells r [] b [] p.0 p.1 refl)

pub turned_in : (q : List (ℕ × ℕ)) (s : List ℕ) → is_in_ranges (reverse q) s ≡ true → is_in_ranges q (reverse s) ≡ true
turned_in q s e = subst (λ (p : List (ℕ × ℕ)). is_in_ranges p (reverse s) ≡ true) (reverse-reverse q) (in_turned (reverse q) s e)

pub in_turned_round : (ss : List (List (ℕ × ℕ))) (s : List ℕ) → IsInSome ss s → IsInSome (turned_round ss) (reverse s)
in_turned_round [] s h = h
in_turned_round (q ∷ ss) s h = elim h [ inl here ↦ inl (in_turned q s here) | inr later ↦ inr (in_turned_round ss s later) ]

pub turned_round_in : (ss : List (List (ℕ × ℕ))) (s : List ℕ) → IsInSome (turned_round ss) s → IsInSome ss (reverse s)
turned_round_in [] s h = h
turned_round_in (q ∷ ss) s h = elim h [ inl here ↦ inl (turned_in q s here) | inr later ↦ inr (turned_round_in ss s later) ]

-- ---- spellings turned round

by_form : (s t : List ℕ) → s ≡ t → IsTurnedSpelling (reverse t) → IsTurnedSpelling (reverse s)
by_form s t e h = subst (λ (l : List ℕ). IsTurnedSpelling (reverse l)) (sym e) h

two_turned : (a b : ℕ) → 192 ≤ a → 128 ≤ b → b ≤ 191 → IsTurnedSpelling (reverse (a ∷ b ∷ []))
two_turned a b l m n = (m, omega arith, inr l)

three_turned : (a b d : ℕ) → 192 ≤ a → 128 ≤ b → b ≤ 191 → 128 ≤ d → d ≤ 191 → IsTurnedSpelling (reverse (a ∷ b ∷ d ∷ []))
three_turned a b d l m n o p = (o, omega arith, (m, omega arith, inr l))

four_turned : (a b d f : ℕ) → 192 ≤ a → 128 ≤ b → b ≤ 191 → 128 ≤ d → d ≤ 191 → 128 ≤ f → f ≤ 191 →
    IsTurnedSpelling (reverse (a ∷ b ∷ d ∷ f ∷ []))
four_turned a b d f l m n o p q r = (q, omega arith, (o, omega arith, (m, omega arith, inr l)))

pub spelling_turned : (c : ℕ) (s : List ℕ) → Spells c s → IsTurnedSpelling (reverse s)
spelling_turned c s (from_0000 a r e v) = by_form s (a ∷ []) e (inl (omega (arith, r.1)))
spelling_turned c s (from_0080 a b r t e v) = by_form s _ e (two_turned a b (omega (arith, r.0)) t.0 t.1)
spelling_turned c s (from_0800 a b d r t u e v) = by_form s _ e (three_turned a b d (omega (arith, r)) (omega (arith, t.0)) t.1 u.0 u.1)
spelling_turned c s (from_1000 a b d r t u e v) = by_form s _ e (three_turned a b d (omega (arith, r.0)) t.0 t.1 u.0 u.1)
spelling_turned c s (from_d000 a b d r t u e v) = by_form s _ e (three_turned a b d (omega (arith, r)) t.0 (omega (arith, t.1)) u.0 u.1)
spelling_turned c s (from_e000 a b d r t u e v) = by_form s _ e (three_turned a b d (omega (arith, r.0)) t.0 t.1 u.0 u.1)
spelling_turned c s (from_10000 a b d f r t u w e v) = by_form s _ e (four_turned a b d f (omega (arith, r)) (omega (
  arith,
  t.0,
)) t.1 u.0 u.1 w.0 w.1)
spelling_turned c s (from_40000 a b d f r t u w e v) = by_form s _ e (four_turned a b d f (omega (arith, r.0)) t.0 t.1 u.0 u.1 w.0 w.1)
spelling_turned c s (from_100000 a b d f r t u w e v) = by_form s _ e (four_turned a b d f (omega (arith, r)) t.0 (omega (
  arith,
  t.1,
)) u.0 u.1 w.0 w.1)

-- no such string is the beginning of a longer one
no_longer : (s rest : List ℕ) → IsTurnedSpelling s → IsTurnedSpelling (s ++ rest) → rest ≡ []
no_longer [] rest h k = absurd h
no_longer (b ∷ []) [] h k = refl
no_longer (b ∷ []) (d ∷ rest) h k = elim h [ inl l ↦ absurd (omega (arith, k.0, l)) | inr l ↦ absurd (omega (arith, k.1, l)) ]
no_longer (b ∷ d ∷ s) rest h k = no_longer (d ∷ s) rest h.2 k.2

-- sequences of such strings, and one more
pub turned_apart : (qs : List (List (ℕ × ℕ))) (ranges : List (ℕ × ℕ)) → AreTurnedSpellings qs →
    ((s : List ℕ) → is_in_ranges ranges s ≡ true → IsTurnedSpelling s) → IsApart qs ranges
turned_apart qs ranges old new = record {
  short = λ s rest i j. no_longer s rest (old s i) (new (s ++ rest) j);
  long = λ s rest i j. no_longer s rest (new s i) (old (s ++ rest) j);
}

-- ---- the sequences of a range of scalars

-- the position of a sequence that has the string
pub in_place : (ss : List (List (ℕ × ℕ))) (s : List ℕ) → IsInSome ss s → (i : ℕ) × (q : List (ℕ × ℕ)) × (slice_get ss i ≡ Some q) ×
    (is_in_ranges q s ≡ true)
in_place [] s h = absurd h
in_place (q ∷ ss) s h = elim h [
  | inl here ↦ (0, q, refl, here)
  | inr later ↦ let p = in_place ss s later in (suc p.0, p.1, p.2, p.3)
]

pub strings_spell : (lo hi : ℕ) (s : List ℕ) → IsInSome (utf8_sequences lo hi) s → (c : ℕ) × (lo ≤ c) × (c ≤ hi) × Spells c s
strings_spell lo hi s h = let p = in_place (utf8_sequences lo hi) s h in string_is_spelling lo hi p.0 p.1 s p.2 p.3

pub turned_spell : (lo hi i : ℕ) (q : List (ℕ × ℕ)) → slice_get (utf8_sequences lo hi) i ≡ Some q → (s : List ℕ) →
    is_in_ranges (reverse q) s ≡ true → IsTurnedSpelling s
turned_spell lo hi i q e s h =
    let p = string_is_spelling lo hi i q (reverse s) e (turned_in q s h) in
    subst IsTurnedSpelling (reverse-reverse s) (spelling_turned p.0 (reverse s) p.3)
