-- At which offsets a state that tries each offset comes to the state that it tries: those that are read to.
use Rattle.std.proofs.Common.{◌≡◌, ℕ, zero, suc, ◌+◌, ◌-◌, ◌<◌, ◌≤◌, Bool, true, false, List, [], ◌∷◌, length, get_or, if◌then◌else◌, ◌&&◌}
use Rattle.std.proofs.Common.{◌||◌, nat_lt, nat_le, inl, Option, Some, None, refl, sym, ap, ◌∙◌, subst, arith}
use Rattle.std.specs.Prelude.{All}
use Rattle.std.proofs.lemmas.Bool.{le-leb, leb-true, lt-ltb, ltb-true}
use Rattle.std.proofs.lemmas.Option.{slice_get-get_or}
use Rattle.std.proofs.lemmas.List.Elements.{All-get_or}
use Rattle.search_core.specs.Text.{byte_at}
use Rattle.hir_core.specs.Means.{Rounds, is_member}
use Rattle.hir_core.specs.PreferredEnds.{Has as HasEnd}
use Rattle.hir_core.proofs.ForCallers.{Has-if}
use Rattle.nfa_core.specs.Ways.{Text, reads, with_offset}
use Rattle.nfa_core.specs.Drafted.{Table}
use Rattle.thompson_nfa.specs.Denotes.{at, Reaches, Halts}
use Rattle.thompson_nfa.specs.Compilations.{IsReadTo}
use Rattle.thompson_nfa.specs.Assembled.{TriesEachOffset}
use Rattle.thompson_nfa.proofs.Walks.WayLemmas.{both_at, byte_ends, Goes, goes_empty, goes_choice, goes_sparse}
use Rattle.thompson_nfa.proofs.Walks.ReachLemmas.{reaches_like, reaches_join, reaches_leaf, reaches_pass, reaches_rounds}
use Rattle.thompson_nfa.proofs.Walks.HaltLemmas.{halts_like, halts_join, halts_leaf, halts_pass, halts_rounds}

-- the ranges of the state that reads any byte
abbrev pub any_range : List (ℕ × ℕ)
any_range = (0, 255) ∷ []

-- the offsets to which that state leads
abbrev pub any_ends : Bool → Text → ℕ → List ℕ
any_ends back t i = byte_ends any_range (reads back t i)

abbrev pub Moves : Bool → Text → ℕ → ℕ → Type 0
Moves back t i j = HasEnd (any_ends back t i) j

-- ---- bytes that are read

pub read_as : (c : Bool) (o : Option ℕ) (j b : ℕ) → c ≡ true → o ≡ Some b → (if c then with_offset j o else None) ≡ Some (b, j)
read_as false o j b t e = cc
read_as true None j b t e = cc
read_as true (Some d) j b t e = ap (λ (p : Option ℕ). with_offset j p) e

in_any_range : (b : ℕ) → b < 256 → is_member any_range b ≡ true
in_any_range b less = ap (λ (c : Bool). (nat_le 0 b && c) || false) (le-leb b 255 (omega arith))
    ∙ ap (λ (c : Bool). (c && true) || false) (le-leb 0 b (omega arith))

ends_of_read : (o : Option (ℕ × ℕ)) (b j : ℕ) → o ≡ Some (b, j) → b < 256 → byte_ends any_range o ≡ j ∷ []
ends_of_read o b j is less = ap (byte_ends any_range) is ∙ ap (λ (c : Bool). if c then j ∷ [] else []) (in_any_range b less)

-- the haystack is of bytes, and the span ends in it
pub record IsText (t : Text) : Type 0 where
  pub within : t.end ≤ length t.haystack
  pub bytes : All (λ byte. byte < 256) t.haystack

pub ends_forward : (t : Text) (i : ℕ) → IsText t → i < t.end → any_ends false t i ≡ suc i ∷ []
ends_forward t i is less =
    let within = is.within in
    let there : i < length t.haystack = omega arith in
    ends_of_read (reads false t i) (get_or t.haystack i 0) (suc i)
    (read_as (nat_lt i t.end) (byte_at t.haystack i) (suc i) (get_or t.haystack i 0) (lt-ltb i t.end less)
    (slice_get-get_or t.haystack i 0 there))
    (All-get_or (λ byte. byte < 256) t.haystack i 0 there is.bytes)

pub ends_reverse : (t : Text) (i : ℕ) → IsText t → t.start ≤ i → suc i ≤ t.end → any_ends true t (suc i) ≡ i ∷ []
ends_reverse t i is above below =
    let within = is.within in
    let there : i < length t.haystack = omega arith in
    ends_of_read (reads true t (suc i)) (get_or t.haystack i 0) i
    (read_as (nat_le t.start i) (byte_at t.haystack i) i (get_or t.haystack i 0) (le-leb t.start i above)
    (slice_get-get_or t.haystack i 0 there))
    (All-get_or (λ byte. byte < 256) t.haystack i 0 there is.bytes)

ends_read : (c : Bool) (o : Option ℕ) (j k : ℕ) → HasEnd (byte_ends any_range (if c then with_offset j o else None)) k →
    (c ≡ true) × (j ≡ k)
ends_read false o j k h = elim h [ ]
ends_read true None j k h = elim h [ ]
ends_read true (Some b) j k h = let one = Has-if (is_member any_range b) j k h in (refl, one.1)

pub moves_forward : (t : Text) (i j : ℕ) → Moves false t i j → (j ≡ suc i) × (suc i ≤ t.end)
moves_forward t i j m =
    let r = ends_read (nat_lt i t.end) (byte_at t.haystack i) (suc i) j m in
    let less = ltb-true i t.end r.0 in
    (sym r.1, omega arith)

pub moves_reverse : (t : Text) (i j : ℕ) → Moves true t i j → (i ≡ suc j) × (t.start ≤ j)
moves_reverse t zero j m = elim m [ ]
moves_reverse t (suc i) j m =
    let r = ends_read (nat_le t.start i) (byte_at t.haystack i) i j m in
    let above = leb-true t.start i r.0 in
    let same = r.1 in
    (omega arith, omega arith)

-- ---- offsets that are read to

rounds_are_forward : (t : Text) (n i k : ℕ) → i ≤ t.end → Rounds (Moves false t) n i k → IsReadTo false t i k
rounds_are_forward t zero i k h r = (omega arith, omega arith)
rounds_are_forward t (suc n) i k h r =
    let m = moves_forward t i r.0 r.1 in
    let is = m.0 in
    let less = m.1 in
    let z = rounds_are_forward t n r.0 k (omega arith) r.2 in
    let low = z.0 in
    (omega arith, z.1)

rounds_reverse : (t : Text) (n i k : ℕ) → Rounds (Moves true t) n i k → IsReadTo true t i k
rounds_reverse t zero i k r = (omega arith, omega arith)
rounds_reverse t (suc n) i k r =
    let m = moves_reverse t i r.0 r.1 in
    let is = m.0 in
    let above = m.1 in
    let z = rounds_reverse t n r.0 k r.2 in
    let low = z.0 in
    let high = z.1 in
    (omega arith, omega arith)

pub rounds_read : (back : Bool) (t : Text) (n i k : ℕ) → i ≤ t.end → Rounds (Moves back t) n i k → IsReadTo back t i k
rounds_read false t n i k h r = rounds_are_forward t n i k h r
rounds_read true t n i k h r = rounds_reverse t n i k r

forward_rounds : (t : Text) → IsText t → (n i k : ℕ) → i + n ≡ k → k ≤ t.end → Rounds (Moves false t) n i k
forward_rounds t is zero i k e h = omega arith
forward_rounds t is (suc n) i k e h =
    let P : List ℕ → Type 0 = λ l. HasEnd l (suc i) in
    (suc i, subst P (sym (ends_forward t i is (omega arith))) (inl refl), forward_rounds t is n (suc i) k (omega arith) h)

reverse_rounds : (t : Text) → IsText t → (n i k : ℕ) → k + n ≡ i → i ≤ t.end → t.start ≤ k → Rounds (Moves true t) n i k
reverse_rounds t is zero i k e h low = omega arith
reverse_rounds t is (suc n) zero k e h low = absurd (omega arith)
reverse_rounds t is (suc n) (suc i) k e h low =
    let P : List ℕ → Type 0 = λ l. HasEnd l i in
    (i, subst P (sym (ends_reverse t i is (omega arith) h)) (inl refl), reverse_rounds t is n i k (omega arith) (omega arith) low)

pub read_rounds : (back : Bool) (t : Text) (i k : ℕ) → IsText t → t.start ≤ i → i ≤ t.end → IsReadTo back t i k → (n : ℕ) ×
    Rounds (Moves back t) n i k
read_rounds false t i k is low high r = let a = r.0 in let b = r.1 in (k - i, forward_rounds t is (k - i) i k (omega arith) b)
read_rounds true t i k is low high r = let a = r.0 in let b = r.1 in (
  i - k,
  reverse_rounds t is (i - k) i k (omega arith) high (omega arith),
)

-- how much is left to read
abbrev left : Bool → Text → ℕ → ℕ
left false t i = t.end - i
left true t i = i

moves_leave_less : (back : Bool) (t : Text) (i k : ℕ) → Moves back t i k → left back t k < left back t i
moves_leave_less false t i k m = let r = moves_forward t i k m in let is = r.0 in let within = r.1 in omega arith
moves_leave_less true t i k m = let r = moves_reverse t i k m in let is = r.0 in omega arith

-- ---- the state that tries each offset

module _ (back : Bool) (t : Text) (T : Table) (u c : ℕ) (w : TriesEachOffset T u c) where
  pub goes_on : Goes back t T u (both_at false w.byte c)
  goes_on = goes_choice back t T u false w.byte c w.loop

  pub goes_any : Goes back t T w.byte (λ i. at w.back (any_ends back t i))
  goes_any = goes_sparse back t T w.byte any_range w.back w.any

  moves_on : Reaches back t T w.byte u (Moves back t)
  moves_on = reaches_like back t T w.byte u (λ i j. (k : ℕ) × Moves back t i k × (k ≡ j)) (Moves back t)
      (λ i j m. (j, m, refl)) (λ i j m. let P : ℕ → Type 0 = λ k. Moves back t i k in subst P m.2 m.1)
      (reaches_join back t T w.byte w.back u (Moves back t) (λ i j. i ≡ j)
      (reaches_leaf back t T w.byte w.back (any_ends back t) goes_any)
      (reaches_pass back t T w.back u (goes_empty back t T w.back u w.again)))

  pub tries_places : Reaches back t T u c (λ i j. (n : ℕ) × Rounds (Moves back t) n i j)
  tries_places = reaches_rounds back t T false w.byte u c (Moves back t) goes_on moves_on u goes_on

  moves_halt : Halts back t T w.byte u (Moves back t)
  moves_halt = halts_like back t T w.byte u (λ i j. (k : ℕ) × Moves back t i k × (k ≡ j)) (Moves back t)
      (λ i j m. let P : ℕ → Type 0 = λ k. Moves back t i k in subst P m.2 m.1)
      (halts_join back t T w.byte w.back u (Moves back t) (λ i j. i ≡ j)
      (halts_leaf back t T w.byte w.back (any_ends back t) goes_any)
      (halts_pass back t T w.back u (goes_empty back t T w.back u w.again)))

  pub tries_halt : Halts back t T u c (λ i j. (n : ℕ) × Rounds (Moves back t) n i j)
  tries_halt = halts_rounds back t T false w.byte u c (Moves back t) (left back t) (moves_leave_less back t) goes_on moves_halt u goes_on
