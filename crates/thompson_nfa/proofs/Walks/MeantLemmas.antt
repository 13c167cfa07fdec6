-- What a tree means when reading forward or in reverse, by what its parts mean.
use Rattle.std.proofs.Common.{◌≡◌, ℕ, zero, suc, ◌+◌, ◌≤◌, Bool, true, false, List, [], ◌∷◌, take, Option, Some, None, if◌then◌else◌}
use Rattle.std.proofs.Common.{slice_get, nat_lt, nat_le, IsTrue, ◌⊎◌, inl, inr, refl, sym, ap, ◌∙◌, subst, arith}
use Rattle.std.proofs.lemmas.Bool.{ltb-true, ltb-false, le-leb, leb-true}
use Rattle.std.proofs.lemmas.Option.{slice_get_cases, slice_get-get_or, slice_get_past}
use Rattle.std.proofs.lemmas.List.{length-take, get_or-take}
use Rattle.search_core.specs.Text.{byte_at}
use Rattle.look_core.specs.declared.look.Look.{Look}
use Rattle.look_core.specs.Codes.{reversed}
use Rattle.look_core.proofs.ForCallers.{reversed_twice}
use Rattle.hir_core.specs.Tree.{Tree, empty, byte_class, look, repetition, cat, never, alt}
use Rattle.hir_core.specs.Means.{Looks, Means, Rounds, AtMost, is_member}
use Rattle.hir_core.specs.PreferredEnds.{preferred_ends, class_end, Has as HasEnd}
use Rattle.hir_core.proofs.ForCallers.{Has-if, Has-then, span_forward, preferred_ends_sound, preferred_ends_complete}
use Rattle.nfa_core.specs.Ways.{Text, with_offset, reads, is_satisfied}
use Rattle.thompson_nfa.specs.Denotes.{IsMeant, seen}
use Rattle.thompson_nfa.specs.Compiled.{turned}
use Rattle.thompson_nfa.proofs.Walks.WayLemmas.{byte_ends}
use Rattle.thompson_nfa.proofs.Walks.InReverseLemmas.{reverse_rounds, rounds_reverse, reverse_join, join_reverse}

-- two trees, the second of which means all that the first means
pub meant_map : (x y : Tree) → ((looks : Looks) (h : List ℕ) (i j : ℕ) → Means looks h x i j → Means looks h y i j) →
    (back : Bool) (t : Text) (i j : ℕ) → IsMeant back t x i j → IsMeant back t y i j
meant_map x y f false t i j m = f t.holds (seen t) i j m
meant_map x y f true t i j m = (f t.holds t.haystack j i m.0, m.1)

pub empty_meant : (back : Bool) (t : Text) (i j : ℕ) → i ≡ j → IsMeant back t empty i j
empty_meant false t i j e = e
empty_meant true t i j e = (sym e, omega arith)

pub meant_empty : (back : Bool) (t : Text) (i j : ℕ) → IsMeant back t empty i j → i ≡ j
meant_empty false t i j m = m
meant_empty true t i j m = sym m.0

pub meant_never : (back : Bool) (t : Text) (i j : ℕ) → IsMeant back t never i j → ⊥
meant_never false t i j m = m
meant_never true t i j m = m.0

pub alt_meant : (back : Bool) (t : Text) (x y : Tree) (i j : ℕ) → IsMeant back t x i j ⊎ IsMeant back t y i j → IsMeant back t (alt x y) i j
alt_meant false t x y i j m = m
alt_meant true t x y i j (inl m) = (inl m.0, m.1)
alt_meant true t x y i j (inr m) = (inr m.0, m.1)

pub meant_alt : (back : Bool) (t : Text) (x y : Tree) (i j : ℕ) → IsMeant back t (alt x y) i j → IsMeant back t x i j ⊎ IsMeant back t y i j
meant_alt false t x y i j m = m
meant_alt true t x y i j (inl m, low) = inl (m, low)
meant_alt true t x y i j (inr m, low) = inr (m, low)

-- of two parts, the second is read first in reverse
pub meant_cat_reverse : (t : Text) (x y : Tree) (i j : ℕ) → IsMeant true t (cat x y) i j → (k : ℕ) × IsMeant true t y i k ×
    IsMeant true t x k j
meant_cat_reverse t x y i j m =
    reverse_join t.start (Means t.holds t.haystack x) (Means t.holds t.haystack y) (span_forward t.holds t.haystack x)
    (span_forward t.holds t.haystack y) i j m

pub cat_meant_reverse : (t : Text) (x y : Tree) (i j k : ℕ) → IsMeant true t y i k → IsMeant true t x k j → IsMeant true t (cat x y) i j
cat_meant_reverse t x y i j k m n =
    join_reverse t.start (Means t.holds t.haystack x) (Means t.holds t.haystack y) (span_forward t.holds t.haystack x)
    (span_forward t.holds t.haystack y) i j k m n

-- rounds of what is meant
abbrev pub MeantRounds : Bool → Text → ℕ → Option ℕ → Tree → ℕ → ℕ → Type 0
MeantRounds back t low most x i j = (n : ℕ) × (low ≤ n) × AtMost n most × Rounds (IsMeant back t x) n i j

pub meant_rounds : (back : Bool) (t : Text) (low : ℕ) (most : Option ℕ) (greedy : Bool) (x : Tree) (i j : ℕ) →
    IsMeant back t (repetition low most greedy x) i j → MeantRounds back t low most x i j
meant_rounds false t low most greedy x i j m = m
meant_rounds true t low most greedy x i j m =
    (m.0.0, m.0.1, m.0.2, reverse_rounds t.start (Means t.holds t.haystack x) (span_forward t.holds t.haystack x) m.0.0 i j m.0.3 m.1)

pub rounds_meant : (back : Bool) (t : Text) (low : ℕ) (most : Option ℕ) (greedy : Bool) (x : Tree) (i j : ℕ) →
    MeantRounds back t low most x i j → IsMeant back t (repetition low most greedy x) i j
rounds_meant false t low most greedy x i j m = m
rounds_meant true t low most greedy x i j m =
    let r = rounds_reverse t.start (Means t.holds t.haystack x) (span_forward t.holds t.haystack x) m.0 i j m.3 in
    ((m.0, m.1, m.2, r.0), r.1)

-- ---- looks

pub look_meant : (back : Bool) (t : Text) (l : Look) (i j : ℕ) → HasEnd (if is_satisfied back t (turned back l) i then i ∷ [] else []) j →
    IsMeant back t (look l) i j
look_meant false t l i j h = let one = Has-if (t.holds l i) i j h in (one.1, one.0)
look_meant true t l i j h =
    let one = Has-if (t.holds (reversed (reversed l)) i) i j h in
    let P : ℕ → Type 0 = λ k. IsTrue (t.holds l k) in
    let e = one.1 in
    ((sym one.1, subst P one.1 (ap (λ (k : Look). t.holds k i) (sym (reversed_twice l)) ∙ one.0)), omega arith)

pub meant_look : (back : Bool) (t : Text) (l : Look) (i j : ℕ) → IsMeant back t (look l) i j →
    HasEnd (if is_satisfied back t (turned back l) i then i ∷ [] else []) j
meant_look false t l i j m = Has-then (t.holds l i) i j m.1 m.0
meant_look true t l i j m =
    let P : ℕ → Type 0 = λ k. IsTrue (t.holds l k) in
    Has-then (t.holds (reversed (reversed l)) i) i j (ap (λ (k : Look). t.holds k i) (reversed_twice l) ∙ subst P m.0.0 m.0.1) (sym m.0.0)

-- ---- bytes

taken_get : (h : List ℕ) (n i : ℕ) (c : Bool) → nat_lt i n ≡ c → slice_get (take n h) i ≡ (if c then slice_get h i else None)
taken_get h n i true e =
    let less = ltb-true i n e in
    elim (slice_get_cases h i).1 [
      | inl x ↦
          let fits = x.1 in
          slice_get-get_or (take n h) i x.0 (omega (arith, length-take n h)) ∙ ap (λ (b : ℕ). Some b) (get_or-take n h i x.0 less ∙ x.3)
          ∙ sym x.2
      | inr o ↦ let past = o.0 in slice_get_past (take n h) i (omega (arith, length-take n h)) ∙ sym o.1
    ]
taken_get h n i false e = let past = ltb-false i n e in slice_get_past (take n h) i (omega (arith, length-take n h))

class_ends_read : (ranges : List (ℕ × ℕ)) (c : Bool) (o : Option ℕ) (i : ℕ) →
    class_end ranges (if c then o else None) i ≡ byte_ends ranges (if c then with_offset (suc i) o else None)
class_ends_read ranges true None i = refl
class_ends_read ranges true (Some b) i = ap (λ (k : ℕ). if is_member ranges b then k ∷ [] else []) (let e : i + 1 ≡ suc i = omega arith in
    e)
class_ends_read ranges false o i = refl

-- the ends of a class are those of the byte that is read
pub class_ends_forward : (t : Text) (ranges : List (ℕ × ℕ)) (i : ℕ) → preferred_ends t.holds (seen t)
    (byte_class ranges) i ≡ byte_ends ranges (reads false t i)
class_ends_forward t ranges i =
    ap (λ (o : Option ℕ). class_end ranges o i) (taken_get t.haystack t.end i (nat_lt i t.end) refl)
    ∙ class_ends_read ranges (nat_lt i t.end) (byte_at t.haystack i) i

read_reverse : (ranges : List (ℕ × ℕ)) (c : Bool) (o : Option ℕ) (i j b : ℕ) → c ≡ true → o ≡ Some b → is_member ranges b ≡ true → i ≡ j →
    HasEnd (byte_ends ranges (if c then with_offset i o else None)) j
read_reverse ranges false o i j b t e m is = cc
read_reverse ranges true None i j b t e m is = cc
read_reverse ranges true (Some d) i j b t e m is = let same : d ≡ b = cc in
    Has-then (is_member ranges d) i j (ap (is_member ranges) same ∙ m) is

reverse_read : (ranges : List (ℕ × ℕ)) (c : Bool) (o : Option ℕ) (i j : ℕ) →
    HasEnd (byte_ends ranges (if c then with_offset i o else None)) j →
    (c ≡ true) × (i ≡ j) × (b : ℕ) × (o ≡ Some b) × (is_member ranges b ≡ true)
reverse_read ranges false o i j h = elim h [ ]
reverse_read ranges true None i j h = elim h [ ]
reverse_read ranges true (Some b) i j h = let one = Has-if (is_member ranges b) i j h in (refl, one.1, b, refl, one.0)

pub class_meant : (back : Bool) (t : Text) (ranges : List (ℕ × ℕ)) (i j : ℕ) → HasEnd (byte_ends ranges (reads back t i)) j →
    IsMeant back t (byte_class ranges) i j
class_meant false t ranges i j h =
    let P : List ℕ → Type 0 = λ l. HasEnd l j in
    preferred_ends_sound t.holds (seen t) (byte_class ranges) i j (subst P (sym (class_ends_forward t ranges i)) h)
class_meant true t ranges zero j h = elim h [ ]
class_meant true t ranges (suc i) j h =
    let r = reverse_read ranges (nat_le t.start i) (byte_at t.haystack i) i j h in
    let above = leb-true t.start i r.0 in
    let same = r.1 in
    let P : ℕ → Type 0 = λ k. slice_get t.haystack k ≡ Some r.2 in
    ((omega arith, r.2, subst P r.1 r.3, r.4), omega arith)

pub meant_class : (back : Bool) (t : Text) (ranges : List (ℕ × ℕ)) (i j : ℕ) → IsMeant back t (byte_class ranges) i j →
    HasEnd (byte_ends ranges (reads back t i)) j
meant_class false t ranges i j m =
    let P : List ℕ → Type 0 = λ l. HasEnd l j in
    subst P (class_ends_forward t ranges i) (preferred_ends_complete t.holds (seen t) (byte_class ranges) i j m)
meant_class true t ranges zero j m = let e = m.0.0 in absurd (omega arith)
meant_class true t ranges (suc i) j m =
    let e = m.0.0 in
    let low = m.1 in
    let same : j ≡ i = omega arith in
    let P : ℕ → Type 0 = λ k. slice_get t.haystack k ≡ Some m.0.1 in
    read_reverse ranges (nat_le t.start i) (byte_at t.haystack i) i j m.0.1 (le-leb t.start i (omega arith)) (subst P same m.0.2) m.0.3
    (sym same)
