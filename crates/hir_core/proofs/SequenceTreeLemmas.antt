-- The ends of a class of scalars are those of its sequences. A sequence ends where its bytes begin the rest of the haystack. A piece's
-- sequence ends if the character there is of the piece. Pieces, and ranges that ascend, share no character.
use Rattle.std.proofs.Common.{◌≡◌, ℕ, zero, suc, ◌+◌, ◌-◌, ◌≤◌, ◌⊎◌, inl, inr, Bool, true, false, cond, ◌&&◌, ◌||◌, leb, List, [], ◌∷◌}
use Rattle.std.proofs.Common.{◌++◌, map, length, take, drop, slice_get, Option, Some, None, refl, sym, ap, ap₂, subst, ◌∙◌, ⊎_elim, arith}
use Rattle.std.proofs.Common.{length-append}
use Rattle.std.specs.Char.{InScalarRange}
use Rattle.std.specs.List.{flat_map}
use Rattle.std.proofs.lemmas.Bool.{and_parts, and_from, le-leb, leb-true, cases_Bool, false_from_ne_true, cond-true, cond-false, or_right}
use Rattle.std.proofs.lemmas.List.{take-append-drop}
use Rattle.std.proofs.lemmas.List.Concat.{flat_map-append}
use Rattle.std.specs.Cmp.{both_ways}
use Rattle.search_core.specs.Utf8.{SpellsFirst}
use Rattle.search_core.specs.Characters.{character_at, spelling_len}
use Rattle.search_core.proofs.ForCallers.{spelling_has_len, character_begins, begun_character}
use Rattle.hir_core.specs.Tree.{char_class, alternation}
use Rattle.hir_core.specs.Means.{Looks, Means, is_member}
use Rattle.hir_core.specs.PreferredEnds.{class_end, character_end, preferred_ends, Has}
use Rattle.hir_core.specs.Sequences.{pieces, byte_ranges, utf8_sequences, is_in_ranges, begins_in_ranges}
use Rattle.hir_core.specs.Facts.{rises_from, is_ascending, sequence_count, LoopsRead}
use Rattle.hir_core.specs.BySequences.{sequence_tree, sequences_of, by_sequences}
use Rattle.hir_core.proofs.HasLemmas.{Has-left, Has-right, Has-append, Has-if, Has-then}
use Rattle.hir_core.proofs.SpellingLemmas.{member_cases}
use Rattle.hir_core.proofs.PreferredEndsLemmas.{preferred_ends_sound, preferred_ends_complete}
use Rattle.hir_core.proofs.SequenceSteps.{never}
use Rattle.hir_core.specs.Pieces.{IsPiece, Rises}
use Rattle.hir_core.proofs.SequenceLemmas.{begins_with, spelling_in, rises, covers, spelled_by, scalar_by, string_spells}

-- ---- counting, and the premise on loops
pub sequences_counted : (ranges : List (ℕ × ℕ)) → length (sequences_of ranges) ≡ sequence_count ranges
sequences_counted [] = refl
sequences_counted (r ∷ rs) =
    length-append (utf8_sequences r.0 r.1) (sequences_of rs) ∙ ap (λ n. length (utf8_sequences r.0 r.1) + n) (sequences_counted rs)

sequence_reads : (ranges : List (ℕ × ℕ)) → LoopsRead (sequence_tree ranges)
sequence_reads [] = tt
sequence_reads (r ∷ rs) = (tt, sequence_reads rs)

all_read : (ss : List (List (ℕ × ℕ))) → LoopsRead (alternation (map sequence_tree ss))
all_read [] = tt
all_read (s ∷ ss) = (sequence_reads s, all_read ss)

pub sequences_read : (ranges : List (ℕ × ℕ)) → LoopsRead (by_sequences ranges)
sequences_read ranges = all_read (sequences_of ranges)

-- ---- the end of a sequence
abbrev sequence_end : List ℕ → ℕ → List (ℕ × ℕ) → List ℕ
sequence_end h i s = cond (begins_in_ranges s (drop i h)) ((i + length s) ∷ []) []

abbrev ByteAt : List ℕ → ℕ → Type 0
ByteAt h i = ((drop i h ≡ []) × (slice_get h i ≡ None)) ⊎ ((b : ℕ) × (drop i h ≡ b ∷ drop (i + 1) h) × (slice_get h i ≡ Some b))

bytes_there : (h : List ℕ) (i : ℕ) → ((drop i h ≡ []) × (slice_get h i ≡ None)) ⊎
    ((b : ℕ) × (drop i h ≡ b ∷ drop (suc i) h) × (slice_get h i ≡ Some b))
bytes_there [] zero = inl (refl, refl)
bytes_there [] (suc i) = inl (refl, refl)
bytes_there (b ∷ h) zero = inr (b, refl, refl)
bytes_there (b ∷ h) (suc i) = elim (bytes_there h i) [ inl a ↦ inl a | inr a ↦ inr (a.0, a.1, a.2) ]

byte_there : (h : List ℕ) (i : ℕ) → ByteAt h i
byte_there h i =
    let next : suc i ≡ i + 1 = omega arith in
    ⊎_elim inl (λ a. inr (a.0, a.1 ∙ ap (λ n. a.0 ∷ drop n h) next, a.2)) (bytes_there h i)

-- one range, and then the end of the others
after_one : (f : ℕ → List ℕ) (t u : Bool) (i n : ℕ) → f (i + 1) ≡ cond u ((i + 1 + n) ∷ []) [] →
    flat_map f (cond (t || false) ((i + 1) ∷ []) []) ≡ cond (t && u) ((i + suc n) ∷ []) []
after_one f false u i n e = refl
after_one f true false i n e = ap (λ l. l ++ []) e
after_one f true true i n e =
    let same : i + 1 + n ≡ i + suc n = omega arith in
    ap (λ l. l ++ []) e ∙ ap (λ k. k ∷ []) same

module _ (looks : Looks) (h : List ℕ) where
  sequence_ends : (s : List (ℕ × ℕ)) (i : ℕ) → preferred_ends looks h (sequence_tree s) i ≡ sequence_end h i s
  sequence_ends [] i = let same : i ≡ i + 0 = omega arith in ap (λ k. k ∷ []) same
  sequence_ends (r ∷ rs) i = elim (byte_there h i) [
    | inl a ↦
        ap (λ o. flat_map (preferred_ends looks h (sequence_tree rs)) (class_end (r ∷ []) o i)) a.1
        ∙ sym (ap (λ d. cond (begins_in_ranges (r ∷ rs) d) ((i + length (r ∷ rs)) ∷ []) []) a.0)
    | inr a ↦
        ap (λ o. flat_map (preferred_ends looks h (sequence_tree rs)) (class_end (r ∷ []) o i)) a.2
        ∙ after_one (preferred_ends looks h (sequence_tree rs)) (leb r.0 a.0
        && leb a.0 r.1) (begins_in_ranges rs (drop (i + 1) h)) i (length rs) (sequence_ends rs (i + 1))
        ∙ sym (ap (λ d. cond (begins_in_ranges (r ∷ rs) d) ((i + length (r ∷ rs)) ∷ []) []) a.1)
  ]

  part_ends : (ss : List (List (ℕ × ℕ))) (i : ℕ) → preferred_ends looks h (alternation (map sequence_tree ss)) i ≡ flat_map
      (sequence_end h i) ss
  part_ends [] i = refl
  part_ends (s ∷ ss) i = ap₂ (λ (a b : List ℕ). a ++ b) (sequence_ends s i) (part_ends ss i)

-- ---- the sequence of a piece
in_length : (s : List (ℕ × ℕ)) (bs : List ℕ) → is_in_ranges s bs ≡ true → length bs ≡ length s
in_length [] [] e = refl
in_length [] (b ∷ bs) e = absurd (never e)
in_length (r ∷ rs) [] e = absurd (never e)
in_length (r ∷ rs) (b ∷ bs) e = ap suc (in_length rs bs (and_parts _ _ e).1)

in_begins : (s : List (ℕ × ℕ)) (bs rest : List ℕ) → is_in_ranges s bs ≡ true → begins_in_ranges s (bs ++ rest) ≡ true
in_begins [] bs rest e = refl
in_begins (r ∷ rs) [] rest e = absurd (never e)
in_begins (r ∷ rs) (b ∷ bs) rest e = let p = and_parts _ _ e in and_from _ _ p.0 (in_begins rs bs rest p.1)

one_member : (p : ℕ × ℕ) (c : ℕ) → p.0 ≤ c → c ≤ p.1 → is_member (p ∷ []) c ≡ true
one_member p c l m = ap (λ t. t || false) (and_from _ _ (le-leb p.0 c l) (le-leb c p.1 m))

pub member_of_one : (p : ℕ × ℕ) (c : ℕ) → is_member (p ∷ []) c ≡ true → (p.0 ≤ c) × (c ≤ p.1)
member_of_one p c e = elim (member_cases p [] c e) [ inl a ↦ a | inr b ↦ absurd (never b) ]

-- if the bytes are begun so, the character is of the piece
piece_begun : (h : List ℕ) (i : ℕ) (p : ℕ × ℕ) → IsPiece p.0 p.1 → begins_in_ranges (byte_ranges p) (drop i h) ≡ true →
    (c : ℕ) × (character_at h i ≡ Some c) × (is_member (p ∷ []) c ≡ true) × (spelling_len c ≡ length (byte_ranges p))
piece_begun h i p k e =
    let n = length (byte_ranges p) in
    let inside = sym (begins_with (byte_ranges p) (drop i h)) ∙ e in
    let c = string_spells p (byte_ranges p) (take n (drop i h)) k refl inside in
    let first : SpellsFirst c.0 (drop i h) = record {
      spelling = take n (drop i h);
      rest = drop n (drop i h);
      spells = c.3;
      joined = sym (take-append-drop n (drop i h));
    } in
    (c.0, begun_character h i c.0 first, one_member p c.0 c.1 c.2, sym (spelling_has_len c.0 _ c.3) ∙ in_length (byte_ranges p) _ inside)

-- and if the character is of the piece, they are
piece_begins : (h : List ℕ) (i c : ℕ) (p : ℕ × ℕ) → IsPiece p.0 p.1 → character_at h i ≡ Some c → is_member (p ∷ []) c ≡ true →
    begins_in_ranges (byte_ranges p) (drop i h) ≡ true
piece_begins h i c p k e m =
    let first = character_begins h i c e in
    let bounds = member_of_one p c m in
    let inside = ap (is_in_ranges (byte_ranges p)) (sym (spelled_by c first.spelling first.spells))
    ∙ spelling_in p.0 c p.1 k bounds.0 bounds.1 in
    ap (begins_in_ranges (byte_ranges p)) first.joined ∙ in_begins (byte_ranges p) first.spelling first.rest inside

no_end : (h : List ℕ) (i : ℕ) (ranges : List (ℕ × ℕ)) (o : Option ℕ) → ((c : ℕ) → o ≡ Some c → is_member ranges c ≡ false) →
    character_end ranges o i ≡ []
no_end h i ranges None none = refl
no_end h i ranges (Some c) none = cond-false _ _ _ (none c refl)

piece_end_is : (h : List ℕ) (i : ℕ) (p : ℕ × ℕ) → IsPiece p.0 p.1 → sequence_end h i (byte_ranges p) ≡ character_end (p ∷ [])
    (character_at h i) i
piece_end_is h i p k = elim (cases_Bool (begins_in_ranges (byte_ranges p) (drop i h))) [
  | inl begun ↦
      let c = piece_begun h i p k begun in
      cond-true _ _ _ begun
      ∙ ap (λ n. (i + n) ∷ []) (sym c.3)
      ∙ sym (cond-true _ _ _ c.2)
      ∙ sym (ap (λ o. character_end (p ∷ []) o i) c.1)
  | inr not ↦
      cond-false _ _ _ not
      ∙ sym (no_end h i (p ∷ []) (character_at h i) (λ c e. false_from_ne_true _ (λ m. never (sym not ∙ piece_begins h i c p k e m))))
]

-- ---- a first range, and others that have none of its members
apart : (t u : Bool) (k : ℕ) → (t ≡ true → u ≡ true → ⊥) → cond (t || u) (k ∷ []) [] ≡ cond (t || false) (k ∷ []) [] ++ cond u (k ∷ []) []
apart false u k e = refl
apart true false k e = refl
apart true true k e = absurd (e refl refl)

class_parts : (r : ℕ × ℕ) (rs : List (ℕ × ℕ)) (o : Option ℕ) (i : ℕ) → ((c : ℕ) → r.0 ≤ c → c ≤ r.1 → is_member rs c ≡ true → ⊥) →
    character_end (r ∷ rs) o i ≡ character_end (r ∷ []) o i ++ character_end rs o i
class_parts r rs None i e = refl
class_parts r rs (Some c) i e =
    apart (leb r.0 c && leb c r.1) (is_member rs c) (i + spelling_len c)
    (λ t u. let p = and_parts _ _ t in e c (leb-true r.0 c p.0) (leb-true c r.1 p.1) u)

rising_members : (low hi : ℕ) (ps : List (ℕ × ℕ)) (c : ℕ) → Rises low hi ps → is_member ps c ≡ true → (low ≤ c) × (c ≤ hi)
rising_members low hi [] c r m = absurd (never m)
rising_members low hi (p ∷ ps) c r m = elim (member_cases p ps c m) [
  | inl a ↦ (omega (arith, r.0, a.0), omega (arith, r.1, a.1))
  | inr b ↦ let q = rising_members (p.1 + 1) hi ps c r.3 b in (omega (arith, q.0, r.0, r.2.0), q.1)
]

pieces_ends : (h : List ℕ) (i low hi : ℕ) (ps : List (ℕ × ℕ)) → Rises low hi ps →
    flat_map (sequence_end h i) (map byte_ranges ps) ≡ character_end ps (character_at h i) i
pieces_ends h i low hi [] r = sym (no_end h i [] (character_at h i) (λ c e. refl))
pieces_ends h i low hi (p ∷ ps) r =
    ap₂ (λ (a b : List ℕ). a ++ b) (piece_end_is h i p r.2) (pieces_ends h i (p.1 + 1) hi ps r.3)
    ∙ sym (class_parts p ps (character_at h i) i (λ c l m e. let q = rising_members (p.1 + 1) hi ps c r.3 e in
    absurd (omega (arith, m, q.0))))

-- ---- the pieces of a range have its scalars

member_there : (c k : ℕ) (ps : List (ℕ × ℕ)) (p : ℕ × ℕ) → slice_get ps k ≡ Some p → p.0 ≤ c → c ≤ p.1 → is_member ps c ≡ true
member_there c k [] p e l m = cc
member_there c zero (x ∷ ps) p e l m =
    let same : x ≡ p = cc in
    subst (λ (y : ℕ × ℕ). is_member (y ∷ ps) c ≡ true) (sym same) (ap (λ t. t
    || is_member ps c) (and_from _ _ (le-leb p.0 c l) (le-leb c p.1 m)))
member_there c (suc k) (x ∷ ps) p e l m = or_right (leb x.0 c && leb c x.1) (is_member ps c) (member_there c k ps p e l m)

same_member : (lo hi c : ℕ) → InScalarRange c → is_member (pieces lo hi) c ≡ is_member ((lo, hi) ∷ []) c
same_member lo hi c s =
    both_ways _ _
    (λ m. let q = rising_members lo hi (pieces lo hi) c (rises (hi + 1 - lo) lo hi) m in one_member (lo, hi) c q.0 q.1)
    (λ m.
    let q = member_of_one (lo, hi) c m in
    let found = covers (hi + 1 - lo) lo hi c (omega arith) s q.0 q.1 in
    member_there c found.0 (pieces lo hi) found.1 found.2 found.3 found.4)

same_class : (ps qs : List (ℕ × ℕ)) (o : Option ℕ) (i : ℕ) → ((c : ℕ) → o ≡ Some c → is_member ps c ≡ is_member qs c) →
    character_end ps o i ≡ character_end qs o i
same_class ps qs None i e = refl
same_class ps qs (Some c) i e = ap (λ t. cond t ((i + spelling_len c) ∷ []) []) (e c refl)

range_ends : (h : List ℕ) (i : ℕ) (r : ℕ × ℕ) → flat_map (sequence_end h i) (utf8_sequences r.0 r.1) ≡ character_end (r ∷ [])
    (character_at h i) i
range_ends h i r =
    pieces_ends h i r.0 r.1 (pieces r.0 r.1) (rises (r.1 + 1 - r.0) r.0 r.1)
    ∙ same_class (pieces r.0 r.1) (r ∷ []) (character_at h i) i
    (λ c e. let first = character_begins h i c e in same_member r.0 r.1 c (scalar_by c first.spelling first.spells))

-- ---- all ranges
ranges_ends : (h : List ℕ) (i : ℕ) (r : ℕ × ℕ) (rs : List (ℕ × ℕ)) →
    flat_map (sequence_end h i) (sequences_of (r ∷ rs)) ≡ character_end (r ∷ []) (character_at h i) i
    ++ flat_map (sequence_end h i) (sequences_of rs)
ranges_ends h i r rs =
    flat_map-append (sequence_end h i) (utf8_sequences r.0 r.1) (sequences_of rs)
    ∙ ap (λ l. l ++ flat_map (sequence_end h i) (sequences_of rs)) (range_ends h i r)

rising_from : (low : ℕ) (rs : List (ℕ × ℕ)) (c : ℕ) → rises_from low rs ≡ true → is_member rs c ≡ true → low ≤ c
rising_from low [] c r m = absurd (never m)
rising_from low (p ∷ ps) c r m =
    let a = and_parts _ _ r in
    let b = and_parts _ _ a.0 in
    let l = leb-true low p.0 b.0 in
    let k = leb-true p.0 p.1 b.1 in
    ⊎_elim (λ q. omega (arith, l, q.0)) (λ q. omega (arith, l, k, rising_from (p.1 + 1) ps c a.1 q)) (member_cases p ps c m)

rising_ends : (h : List ℕ) (i low : ℕ) (rs : List (ℕ × ℕ)) → rises_from low rs ≡ true →
    character_end rs (character_at h i) i ≡ flat_map (sequence_end h i) (sequences_of rs)
rising_ends h i low [] r = no_end h i [] (character_at h i) (λ c e. refl)
rising_ends h i low (p ∷ ps) r =
    let others = (and_parts (leb low p.0 && leb p.0 p.1) (rises_from (p.1 + 1) ps) r).1 in
    class_parts p ps (character_at h i) i (λ c l m e. absurd (omega (arith, m, rising_from (p.1 + 1) ps c others e)))
    ∙ ap (λ l. character_end (p ∷ []) (character_at h i) i ++ l) (rising_ends h i (p.1 + 1) ps others)
    ∙ sym (ranges_ends h i p ps)

pub class_ends : (looks : Looks) (h : List ℕ) (ranges : List (ℕ × ℕ)) (i : ℕ) → is_ascending ranges ≡ true →
    preferred_ends looks h (char_class ranges) i ≡ preferred_ends looks h (by_sequences ranges) i
class_ends looks h ranges i r = rising_ends h i 0 ranges r ∙ sym (part_ends looks h (sequences_of ranges) i)

-- ---- the spans, whatever the ranges are
either_part : (r : ℕ × ℕ) (rs : List (ℕ × ℕ)) (o : Option ℕ) (i j : ℕ) → Has (character_end (r ∷ rs) o i) j →
    Has (character_end (r ∷ []) o i) j ⊎ Has (character_end rs o i) j
either_part r rs None i j g = elim g [ ]
either_part r rs (Some c) i j g =
    let one = Has-if (is_member (r ∷ rs) c) (i + spelling_len c) j g in
    elim (member_cases r rs c one.0) [
      | inl a ↦ inl (Has-then (is_member (r ∷ []) c) _ j (one_member r c a.0 a.1) one.1)
      | inr b ↦ inr (Has-then (is_member rs c) _ j b one.1)
    ]

first_part : (r : ℕ × ℕ) (rs : List (ℕ × ℕ)) (o : Option ℕ) (i j : ℕ) → Has (character_end (r ∷ []) o i) j →
    Has (character_end (r ∷ rs) o i) j
first_part r rs None i j g = elim g [ ]
first_part r rs (Some c) i j g =
    let one = Has-if (is_member (r ∷ []) c) (i + spelling_len c) j g in
    let m = member_of_one r c one.0 in
    Has-then (is_member (r ∷ rs) c) _ j (member_there c 0 (r ∷ rs) r refl m.0 m.1) one.1

later_part : (r : ℕ × ℕ) (rs : List (ℕ × ℕ)) (o : Option ℕ) (i j : ℕ) → Has (character_end rs o i) j → Has (character_end (r ∷ rs) o i) j
later_part r rs None i j g = elim g [ ]
later_part r rs (Some c) i j g =
    let one = Has-if (is_member rs c) (i + spelling_len c) j g in
    Has-then (is_member (r ∷ rs) c) _ j (or_right (leb r.0 c && leb c r.1) (is_member rs c) one.0) one.1

abbrev SequenceHas : List ℕ → ℕ → ℕ → List (ℕ × ℕ) → Type 0
SequenceHas h i j ranges = Has (flat_map (sequence_end h i) (sequences_of ranges)) j

has_sequence : (h : List ℕ) (i j : ℕ) (rs : List (ℕ × ℕ)) → Has (character_end rs (character_at h i) i) j → SequenceHas h i j rs
has_sequence h i j [] g = absurd (subst (λ (l : List ℕ). Has l j) (no_end h i [] (character_at h i) (λ c e. refl)) g)
has_sequence h i j (r ∷ rs) g =
    subst (λ (l : List ℕ). Has l j) (sym (ranges_ends h i r rs))
    (⊎_elim (Has-left _ _ j) (λ b. Has-right (character_end (r ∷ []) (character_at h i) i) _ j (has_sequence h i j rs b))
    (either_part r rs (character_at h i) i j g))

has_class : (h : List ℕ) (i j : ℕ) (rs : List (ℕ × ℕ)) → SequenceHas h i j rs → Has (character_end rs (character_at h i) i) j
has_class h i j [] g = elim g [ ]
has_class h i j (r ∷ rs) g =
    ⊎_elim (first_part r rs (character_at h i) i j) (λ b. later_part r rs (character_at h i) i j (has_class h i j rs b))
    (Has-append (character_end (r ∷ []) (character_at h i) i) _ j (subst (λ (l : List ℕ). Has l j) (ranges_ends h i r rs) g))

module _ (looks : Looks) (h : List ℕ) (ranges : List (ℕ × ℕ)) (i j : ℕ) where
  pub class_to_sequences : Means looks h (char_class ranges) i j → Means looks h (by_sequences ranges) i j
  class_to_sequences m =
      preferred_ends_sound looks h (by_sequences ranges) i j
      (subst (λ (l : List ℕ). Has l j) (sym (part_ends looks h (sequences_of ranges) i))
      (has_sequence h i j ranges (preferred_ends_complete looks h (char_class ranges) i j m)))

  pub sequences_to_class : Means looks h (by_sequences ranges) i j → Means looks h (char_class ranges) i j
  sequences_to_class m =
      preferred_ends_sound looks h (char_class ranges) i j
      (has_class h i j ranges
      (subst (λ (l : List ℕ). Has l j) (part_ends looks h (sequences_of ranges) i)
      (preferred_ends_complete looks h (by_sequences ranges) i j m)))
