-- A class of scalars that are spelled by one byte each is the class of these bytes.
use Rattle.std.proofs.Common.{◌≡◌, ℕ, zero, suc, ◌+◌, ◌<◌, ◌≤◌, true, false, cond, nat_le, nat_lt, ◌&&◌, List, [], ◌∷◌, ◌++◌, length, drop}
use Rattle.std.proofs.Common.{get_or, slice_get, Option, Some, None, inl, inr, refl, sym, ap, ◌∙◌, subst, arith, drop-cons}
use Rattle.std.proofs.Common.{drop_of_length-le}
use Rattle.std.proofs.lemmas.Bool.{and_parts, cases_lt, cond-true, cond-false, false_from_ne_true, le-leb, leb-true, ltb-true}
use Rattle.std.proofs.lemmas.Option.{slice_get_cases}
use Rattle.search_core.specs.Characters.{character_at, spelling_len}
use Rattle.search_core.specs.Utf8.{Spells, from_0000}
use Rattle.search_core.proofs.ForCallers.{character_begins, begun_character}
use Rattle.hir_core.specs.Facts.{is_ascending, rises_from}
use Rattle.hir_core.specs.Means.{is_member}
use Rattle.hir_core.specs.PreferredEnds.{class_end, character_end}
use Rattle.hir_core.specs.Tree.{byte_class, char_class}
use Rattle.hir_core.proofs.ForCallers.{spelled_by, member_cases}
use Rattle.nfa_core.specs.BuilderStates.{Assembly}
use Rattle.thompson_nfa.specs.AsciiClasses.{is_ascii}
use Rattle.thompson_nfa.specs.Compiled.{Does}
use Rattle.thompson_nfa.proofs.Fragments.JoinLemmas.{does_same}
use Rattle.thompson_nfa.proofs.Walks.SameLemmas.{IsSame}

-- ---- members

member_below : (ranges : List (ℕ × ℕ)) (c : ℕ) → is_ascii ranges ≡ true → is_member ranges c ≡ true → c < 128
member_below [] c e m = absurd (cc)
member_below (r ∷ rs) c e m =
    let both = and_parts (nat_lt r.1 0x80) (is_ascii rs) e in
    let last : r.1 < 128 = ltb-true r.1 0x80 both.0 in
    elim (member_cases r rs c m) [ inl a ↦ let up = a.1 in omega arith | inr b ↦ member_below rs c both.1 b ]

no_member : (ranges : List (ℕ × ℕ)) (c : ℕ) → is_ascii ranges ≡ true → 128 ≤ c → is_member ranges c ≡ false
no_member ranges c e l = false_from_ne_true (is_member ranges c) (λ m. let below = member_below ranges c e m in absurd (omega arith))

-- ---- spellings of one byte

one_byte_spells : (c : ℕ) (s : List ℕ) → Spells c s → c < 128 → s ≡ c ∷ []
one_byte_spells c s spells l = sym (spelled_by c s spells) ∙ cond-true _ _ _ (le-leb c 0x7F (omega arith))

-- the character is the byte
byte_there : (h : List ℕ) (i c : ℕ) → character_at h i ≡ Some c → c < 128 → (rest : List ℕ) × (drop i h ≡ c ∷ rest)
byte_there h i c e l =
    let first = character_begins h i c e in
    (first.rest, first.joined ∙ ap (λ (s : List ℕ). s ++ first.rest) (one_byte_spells c first.spelling first.spells l))

-- the byte is the character
character_there : (h : List ℕ) (i b : ℕ) (rest : List ℕ) → drop i h ≡ b ∷ rest → b < 128 → character_at h i ≡ Some b
character_there h i b rest e l =
    begun_character h i b (record { spelling = b ∷ []; rest = rest; spells = from_0000 b (omega arith, omega arith) refl refl; joined = e })

-- ---- ends

no_end : (ranges : List (ℕ × ℕ)) (o : Option ℕ) (i : ℕ) → ((c : ℕ) → o ≡ Some c → is_member ranges c ≡ false) →
    character_end ranges o i ≡ []
no_end ranges None i none = refl
no_end ranges (Some c) i none = cond-false _ _ _ (none c refl)

-- no character of the class is there
none_there : (ranges : List (ℕ × ℕ)) (h : List ℕ) (i : ℕ) → is_ascii ranges ≡ true →
    ((c : ℕ) (rest : List ℕ) → drop i h ≡ c ∷ rest → c < 128 → ⊥) →
    character_end ranges (character_at h i) i ≡ []
none_there ranges h i e none =
    no_end ranges (character_at h i) i
    (λ c at. false_from_ne_true (is_member ranges c)
    (λ m. let l = member_below ranges c e m in let there = byte_there h i c at l in none c there.0 there.1 l))

one_byte_end : (ranges : List (ℕ × ℕ)) (i b : ℕ) → b < 128 → class_end ranges (Some b) i ≡ character_end ranges (Some b) i
one_byte_end ranges i b l =
    let one : spelling_len b ≡ 1 = cond-true _ _ _ (le-leb b 0x7F (omega arith)) in
    ap (λ (n : ℕ). cond (is_member ranges b) ((i + n) ∷ []) []) (sym one)

heads : (a b : ℕ) (xs ys : List ℕ) → a ∷ xs ≡ b ∷ ys → a ≡ b
heads a b xs ys e = cc

ascii_ends : (h : List ℕ) (i : ℕ) (ranges : List (ℕ × ℕ)) → is_ascii ranges ≡ true →
    class_end ranges (slice_get h i) i ≡ character_end ranges (character_at h i) i
ascii_ends h i ranges e = elim (slice_get_cases h i).1 [
  | inl x ↦
      let b = x.0 in
      let here : drop i h ≡ b ∷ drop (suc i) h = drop-cons h i b x.1 ∙ ap (λ (k : ℕ). k ∷ drop (suc i) h) x.3 in
      elim (cases_lt b 128) [
        | inl l ↦
            ap (λ (o : Option ℕ). class_end ranges o i) x.2
            ∙ one_byte_end ranges i b l
            ∙ sym (ap (λ (o : Option ℕ). character_end ranges o i) (character_there h i b (drop (suc i) h) here l))
        | inr g ↦
            ap (λ (o : Option ℕ). class_end ranges o i) x.2
            ∙ cond-false _ _ _ (no_member ranges b e g)
            ∙ sym (none_there ranges h i e (λ c rest at l. let same = heads b c (drop (suc i) h) rest (sym here ∙ at) in
            absurd (omega arith)))
      ]
  | inr o ↦
      ap (λ (c : Option ℕ). class_end ranges c i) o.1
      ∙ sym (none_there ranges h i e (λ c rest at l. let same : [] ≡ c ∷ rest = sym (drop_of_length-le h o.0) ∙ at in cc))
]

-- a class of scalars is that of the same bytes if each of them is spelled by one byte
pub same_ascii : (ranges : List (ℕ × ℕ)) → is_ascii ranges ≡ true → IsSame (byte_class ranges) (char_class ranges)
same_ascii ranges e = record { reading = λ f. tt; ends = λ looks h i. ascii_ends h i ranges e; met = λ back l. refl }

pub ascii_does : (a b : Assembly) (ranges bytes : List (ℕ × ℕ)) → bytes ≡ ranges → (s e : ℕ) → is_ascii ranges ≡ true →
    Does a b s e (byte_class bytes) →
    Does a b s e (char_class ranges)
ascii_does a b ranges bytes is s e ascii d =
    let P : List (ℕ × ℕ) → Type 0 = λ rs. Does a b s e (byte_class rs) in
    does_same a b s e (byte_class ranges) (char_class ranges) (same_ascii ranges ascii) (subst P is d)

-- ---- the bytes of the ranges

abbrev pub IsByteRange : ℕ × ℕ → Type 0
IsByteRange r = (r.0 < 256) × (r.1 < 256)

byte_range_at : (low : ℕ) (ranges : List (ℕ × ℕ)) (k : ℕ) (d : ℕ × ℕ) → rises_from low ranges ≡ true → is_ascii ranges ≡ true →
    k < length ranges →
    IsByteRange (get_or ranges k d)
byte_range_at low [] k d up e l = absurd (omega arith)
byte_range_at low (r ∷ rs) zero d up e l =
    let order = and_parts (nat_le low r.0 && nat_le r.0 r.1) (rises_from (r.1 + 1) rs) up in
    let rise : r.0 ≤ r.1 = leb-true r.0 r.1 (and_parts (nat_le low r.0) (nat_le r.0 r.1) order.0).1 in
    let last : r.1 < 128 = ltb-true r.1 0x80 (and_parts (nat_lt r.1 0x80) (is_ascii rs) e).0 in
    (omega arith, omega arith)
byte_range_at low (r ∷ rs) (suc k) d up e l =
    byte_range_at (r.1 + 1) rs k d (and_parts (nat_le low r.0 && nat_le r.0 r.1) (rises_from (r.1 + 1) rs) up).1
    (and_parts (nat_lt r.1 0x80) (is_ascii rs) e).1 (omega arith)

pub ascii_range_at : (ranges : List (ℕ × ℕ)) (k : ℕ) (d : ℕ × ℕ) → is_ascending ranges ≡ true → is_ascii ranges ≡ true → k < length ranges →
    IsByteRange (get_or ranges k d)
ascii_range_at ranges k d up e l = byte_range_at 0 ranges k d up e l
