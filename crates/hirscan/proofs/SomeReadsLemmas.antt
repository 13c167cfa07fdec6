-- Each input reads or has a first fault.
use Rattle.std.proofs.Common.{◌≡◌, ◌≢◌, ℕ, zero, suc, ◌+◌, ◌<◌, ◌≤◌, ◌⊎◌, inl, inr, List, [], ◌∷◌, ◌++◌, length, Option, Some, None, refl}
use Rattle.std.proofs.Common.{ap, arith, length-append}
use Rattle.std.proofs.lemmas.Bool.{cases_eq}
use Rattle.std.proofs.lemmas.List.Elements.{All-cons, All-nil}
use Rattle.hirscan.specs.declared.fault.FaultKind.{FaultKind}
use Rattle.hirscan.specs.declared.fault.FaultKind.TheVariants.{NoFindLine}
use Rattle.hirscan.specs.Words.{words}
use Rattle.hirscan.specs.Takes.{QueryValue, Takes}
use Rattle.hirscan.specs.LineFault.{fault}
use Rattle.hirscan.specs.Reads.{IsOneLine, Reads, reads_find, reads_line, IsFaultAt, no_line_feed, faulty_line, faulty_later}
use Rattle.hirscan.proofs.EffectLemmas.{taken_or_ends}

-- the first line of an input, and what follows its line feed
record Cut (text : List ℕ) : Type 0 where
  line : List ℕ
  rest : List ℕ
  parts : text ≡ line ++ 10 ∷ rest
  one_line : IsOneLine line

cut_more : (b : ℕ) (text : List ℕ) → b ≢ 10 → IsOneLine text ⊎ Cut text → IsOneLine (b ∷ text) ⊎ Cut (b ∷ text)
cut_more b text other (inl one) = inl (All-cons (λ n. n ≢ 10) b text other one)
cut_more b text other (inr cut) =
    inr record {
      line = b ∷ cut.line;
      rest = cut.rest;
      parts = ap (λ t. b ∷ t) cut.parts;
      one_line = All-cons (λ n. n ≢ 10) b cut.line other cut.one_line;
    }

one_line_or_cut : (text : List ℕ) → IsOneLine text ⊎ Cut text
one_line_or_cut [] = inl (All-nil (λ n. n ≢ 10))
one_line_or_cut (b ∷ text) = elim (cases_eq b 10) [
  | inl feed ↦ inr record { line = []; rest = text; parts = ap (λ n. n ∷ text) feed; one_line = All-nil (λ n. n ≢ 10) }
  | inr other ↦ cut_more b text other (one_line_or_cut text)
]

abbrev Outcome : List ℕ → QueryValue → Type 0
Outcome text p = ((there : QueryValue) × (n : ℕ) × Reads text p there n) ⊎ ((k : ℕ) × (kind : FaultKind) × IsFaultAt text p k kind)

-- the outcome of what follows a line, as that of the input from the line on
outcome_later : (text : List ℕ) (p q : QueryValue) (cut : Cut text) → Takes (words cut.line) p q → Outcome cut.rest q → Outcome text p
outcome_later text p q cut takes (inl r) = inl (
  r.0,
  length cut.line + 1 + r.1,
  reads_line text cut.line cut.rest p q r.0 _ r.1 cut.parts cut.one_line takes r.2 refl,
)
outcome_later text p q cut takes (inr f) = inr (
  f.0 + 1,
  f.1,
  faulty_later text cut.line cut.rest p q
      (f.0 + 1) f.0 f.1 cut.parts cut.one_line takes f.2 refl,
)

outcome_of_line : (text : List ℕ) (p : QueryValue) (cut : Cut text) (found : Option FaultKind) → fault (words cut.line) p ≡ found →
    ((q : QueryValue) → Outcome cut.rest q) → Outcome text p
outcome_of_line text p cut (Some kind) is later = inr (1, kind, faulty_line text cut.line cut.rest p 1 kind cut.parts cut.one_line is refl)
outcome_of_line text p cut None is later = elim (taken_or_ends (words cut.line) p is) [
  | inl taken ↦ outcome_later text p taken.0 cut taken.1 (later taken.0)
  | inr ends ↦ inl (p, length cut.line + 1, reads_find text cut.line cut.rest p p _ cut.parts cut.one_line ends refl refl)
]

outcome_by : (text : List ℕ) (p : QueryValue) → IsOneLine text ⊎ Cut text → ((cut : Cut text) (q : QueryValue) → Outcome cut.rest q) →
    Outcome text p
outcome_by text p (inl one) later = inr (1, NoFindLine, no_line_feed text p 1 NoFindLine one refl refl)
outcome_by text p (inr cut) later = outcome_of_line text p cut (fault (words cut.line) p) refl (later cut)

rest_is_shorter : (text : List ℕ) (cut : Cut text) → length cut.rest < length text
rest_is_shorter text cut = omega (arith, ap length cut.parts, length-append cut.line (10 ∷ cut.rest))

-- by the number of bytes that are left
outcome_within : (n : ℕ) (text : List ℕ) (p : QueryValue) → length text ≤ n → Outcome text p
outcome_within zero text p l = outcome_by text p (one_line_or_cut text) (λ cut q. absurd (omega (arith, rest_is_shorter text cut)))
outcome_within (suc n) text p l =
    outcome_by text p (one_line_or_cut text) (λ cut q. outcome_within n cut.rest q (omega (arith, rest_is_shorter text cut)))

pub reads_or_faulty : (text : List ℕ) (p : QueryValue) →
    ((there : QueryValue) × (n : ℕ) × Reads text p there n) ⊎ ((k : ℕ) × (kind : FaultKind) × IsFaultAt text p k kind)
reads_or_faulty text p = outcome_within (length text) text p (omega arith)
