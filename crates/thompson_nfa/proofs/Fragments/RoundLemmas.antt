-- Repetitions: copies one after the other, nested choices, and loops.
use Rattle.std.proofs.Common.{◌≡◌, ℕ, zero, suc, ◌-◌, ◌<◌, Bool, true, false, List, length, Option, Some, None, ◌⊎◌, inl, inr, refl, arith}
use Rattle.std.proofs.Common.{◌||◌, sym}
use Rattle.std.specs.List.{flat_map}
use Rattle.std.proofs.Math.Bool.{or-false}
use Rattle.look_core.specs.declared.look.Look.{Look}
use Rattle.thompson_nfa.specs.Compiled.{uses}
use Rattle.hir_core.specs.Tree.{Tree, empty, repetition}
use Rattle.hir_core.specs.Means.{Looks, Rounds, AtMost}
use Rattle.hir_core.specs.PreferredEnds.{preferred_ends, in_order}
use Rattle.hir_core.specs.Facts.{LoopsRead, IsAboveZero, minimum_len}
use Rattle.hir_core.proofs.ForCallers.{IsSpan-Means, reads_a_byte, preferred_ends_sound, repetition_more}
use Rattle.nfa_core.specs.Ways.{Text}
use Rattle.nfa_core.specs.Drafted.{Table}
use Rattle.thompson_nfa.specs.Denotes.{seen, choice, IsMeant, Reaches, Halts, Orders, Denotes}
use Rattle.thompson_nfa.proofs.Steps.LookLemmas.{or_twice}
use Rattle.thompson_nfa.proofs.Walks.WayLemmas.{both_at, Goes, goes_choice}
use Rattle.thompson_nfa.proofs.Walks.ReachLemmas.{reaches_like, reaches_join, reaches_choice, reaches_rounds}
use Rattle.thompson_nfa.proofs.Walks.OrderLemmas.{orders_like, orders_join, orders_choice, orders_rounds}
use Rattle.thompson_nfa.proofs.Walks.HaltLemmas.{halts_like, halts_join, halts_choice, halts_rounds}
use Rattle.thompson_nfa.proofs.Walks.MeantLemmas.{MeantRounds, meant_rounds, rounds_meant}
use Rattle.thompson_nfa.proofs.Walks.DenoteLemmas.{Joins, denotes_join, denotes_empty_here}
use Rattle.thompson_nfa.proofs.Walks.SameLemmas.{IsSame, denotes_same}

-- one more round is allowed
abbrev pub one_more : Option ℕ → Option ℕ
one_more None = None
one_more (Some n) = Some (suc n)

at_most_less : (n : ℕ) (most : Option ℕ) → AtMost (suc n) (one_more most) → AtMost n most
at_most_less n None a = tt
at_most_less n (Some m) a = omega arith

at_most_more : (n : ℕ) (most : Option ℕ) → AtMost n most → AtMost (suc n) (one_more most)
at_most_more n None a = tt
at_most_more n (Some m) a = omega arith

first_round : (back : Bool) (t : Text) (low : ℕ) (most : Option ℕ) (x : Tree) (i j : ℕ) →
    MeantRounds back t (suc low) (one_more most) x i j →
    (k : ℕ) × IsMeant back t x i k × MeantRounds back t low most x k j
first_round back t low most x i j (zero, least, upper, r) = absurd (omega arith)
first_round back t low most x i j (suc n, least, upper, r) = (r.0, r.1, (n, omega arith, at_most_less n most upper, r.2))

copy_reading : (low : ℕ) (most : Option ℕ) (greedy : Bool) (x : Tree) → LoopsRead (repetition (suc low) (one_more most) greedy x) →
    LoopsRead x × LoopsRead (repetition low most greedy x)
copy_reading low None greedy x f = (f.1, f)
copy_reading low (Some m) greedy x f = (f, f)

copy_ends : (looks : Looks) (h : List ℕ) (low : ℕ) (most : Option ℕ) (greedy : Bool) (x : Tree) (i : ℕ) →
    flat_map (preferred_ends looks h (repetition low most greedy x)) (preferred_ends looks h x i) ≡ preferred_ends looks h
    (repetition (suc low) (one_more most) greedy x) i
copy_ends looks h low None greedy x i = refl
copy_ends looks h low (Some m) greedy x i = refl

-- the looks of a copy and of the other rounds
used_copy : (back : Bool) (low : ℕ) (most : Option ℕ) (greedy : Bool) (x : Tree) (l : Look) →
    uses back (repetition (suc low) (one_more most) greedy x) l ≡ (uses back x l || uses back (repetition low most greedy x) l)
used_copy back low None greedy x l = or_twice (uses back x l)
used_copy back low (Some zero) greedy x l = sym (or-false (uses back x l))
used_copy back low (Some (suc m)) greedy x l = or_twice (uses back x l)

-- a copy and then the other rounds, in both directions
pub joins_copy : (back : Bool) (low : ℕ) (most : Option ℕ) (greedy : Bool) (x : Tree) →
    Joins back x (repetition low most greedy x) (repetition (suc low) (one_more most) greedy x)
joins_copy back low most greedy x = record {
  parts = λ t i j m.
      let r = first_round back t low most x i j (meant_rounds back t (suc low) (one_more most) greedy x i j m) in
      (r.0, r.1, rounds_meant back t low most greedy x r.0 j r.2);
  joined = λ t i j m.
      let r = meant_rounds back t low most greedy x m.0 j m.2 in
      rounds_meant back t (suc low) (one_more most) greedy x i j (suc r.0, omega arith, at_most_more r.0 most r.2, (m.0, m.1, r.3));
  reading = λ f. copy_reading low most greedy x f;
  ends = λ up looks h i. copy_ends looks h low most greedy x i;
  met = λ l. used_copy back low most greedy x l;
}

-- no round is required and none is left
pub same_stopped : (greedy : Bool) (x : Tree) → IsSame empty (repetition 0 (Some 0) greedy x)
same_stopped greedy x = record { reading = λ f. tt; ends = λ looks h i. refl; met = λ back l. refl }

-- how many bytes can be read from an offset: up to the end of what is seen, or down to the first byte
abbrev left_to_read : Bool → Text → ℕ → ℕ
left_to_read false t i = length (seen t) - i
left_to_read true t i = i

-- after a tree that consumes a byte, less is left to read
reads_on : (back : Bool) (t : Text) (x : Tree) → IsAboveZero (minimum_len x) → (i k : ℕ) → IsMeant back t x i k →
    left_to_read back t k < left_to_read back t i
reads_on false t x above i k m =
    let longer = reads_a_byte t.holds (seen t) x above i k m in
    let span = IsSpan-Means t.holds (seen t) x i k m in
    let within = span.within in
    omega arith
reads_on true t x above i k m = reads_a_byte t.holds t.haystack x above k i m.0

module _ (back : Bool) (T : Table) where
  pub denotes_copy : (s m e low : ℕ) (most : Option ℕ) (greedy : Bool) (x : Tree) → Denotes back T s m x →
      Denotes back T m e (repetition low most greedy x) →
      Denotes back T s e (repetition (suc low) (one_more most) greedy x)
  denotes_copy s m e low most greedy x a b =
      denotes_join back T s m e x (repetition low most greedy x) (repetition (suc low) (one_more most) greedy x)
      (joins_copy back low most greedy x) a b

  pub denotes_stopped : (s e : ℕ) (greedy : Bool) (x : Tree) → Denotes back T s e empty →
      Denotes back T s e (repetition 0 (Some 0) greedy x)
  denotes_stopped s e greedy x d = denotes_same back T s e empty (repetition 0 (Some 0) greedy x) (same_stopped greedy x) d

  pub denotes_stopped_here : (s : ℕ) (greedy : Bool) (x : Tree) → Denotes back T s s (repetition 0 (Some 0) greedy x)
  denotes_stopped_here s greedy x = denotes_stopped s s greedy x (denotes_empty_here back T s)

  -- ---- a round that may be skipped, and then fewer rounds

  module _ (u a m e left : ℕ) (greedy : Bool) (x : Tree) (body : Denotes back T a m x)
      (rest : Denotes back T m e (repetition 0 (Some left) greedy x)) where
    abbrev Both : Text → ℕ → ℕ → Type 0
    Both t i j = (k : ℕ) × IsMeant back t x i k × IsMeant back t (repetition 0 (Some left) greedy x) k j

    few_rounds : (t : Text) (i j : ℕ) → MeantRounds back t 0 (Some (suc left)) x i j → Both t i j ⊎ (i ≡ j)
    few_rounds t i j (zero, low, upper, r) = inr r
    few_rounds t i j (suc n, low, upper, r) = inl (
      r.0,
      r.1,
      rounds_meant back t 0 (Some left) greedy x r.0 j (
        n,
        omega arith,
        omega arith,
        r.2,
      ),
    )

    rounds_few : (t : Text) (i j : ℕ) → Both t i j ⊎ (i ≡ j) → MeantRounds back t 0 (Some (suc left)) x i j
    rounds_few t i j (inl b) =
        let r = meant_rounds back t 0 (Some left) greedy x b.0 j b.2 in
        let upper = r.2 in
        (suc r.0, omega arith, omega arith, (b.0, b.1, r.3))
    rounds_few t i j (inr e) = (0, omega arith, omega arith, e)

    few_reaches : (t : Text) → Goes back t T u (both_at greedy a e) → Reaches back t T u e
        (IsMeant back t (repetition 0 (Some (suc left)) greedy x))
    few_reaches t g =
        reaches_like back t T u e (λ i j. Both t i j ⊎ (i ≡ j)) (IsMeant back t (repetition 0 (Some (suc left)) greedy x))
        (λ i j y. few_rounds t i j (meant_rounds back t 0 (Some (suc left)) greedy x i j y))
        (λ i j y. rounds_meant back t 0 (Some (suc left)) greedy x i j (rounds_few t i j y))
        (reaches_choice back t T greedy u a e (Both t) g
        (reaches_join back t T a m e (IsMeant back t x) (IsMeant back t (repetition 0 (Some left) greedy x)) (body.reaches t)
        (rest.reaches t)))

    few_halts : (t : Text) → Goes back t T u (both_at greedy a e) → LoopsRead x →
        Halts back t T u e (IsMeant back t (repetition 0 (Some (suc left)) greedy x))
    few_halts t g f =
        halts_like back t T u e (λ i j. Both t i j ⊎ (i ≡ j)) (IsMeant back t (repetition 0 (Some (suc left)) greedy x))
        (λ i j y. rounds_meant back t 0 (Some (suc left)) greedy x i j (rounds_few t i j y))
        (halts_choice back t T greedy u a e (Both t) g
        (halts_join back t T a m e (IsMeant back t x) (IsMeant back t (repetition 0 (Some left) greedy x)) (body.halts f t)
        (rest.halts f t)))

  few_orders : (u a m e left : ℕ) (greedy : Bool) (x : Tree) → Denotes back T a m x →
      Denotes back T m e (repetition 0 (Some left) greedy x) → (t : Text) → back ≡ false → LoopsRead x →
      Goes false t T u (both_at greedy a e) → Orders t T u e (preferred_ends t.holds (seen t) (repetition 0 (Some (suc left)) greedy x))
  few_orders u a m e left greedy x body rest t up f g =
      let p : ℕ → List ℕ = preferred_ends t.holds (seen t) x in
      let q : ℕ → List ℕ = preferred_ends t.holds (seen t) (repetition 0 (Some left) greedy x) in
      orders_like t T u e (λ i. in_order greedy (flat_map q (p i)) i) (preferred_ends t.holds (seen t)
      (repetition 0 (Some (suc left)) greedy x)) (λ i. refl)
      (orders_choice t T greedy u a e (λ i. flat_map q (p i)) g (orders_join t T a m e p q (body.orders up f t) (rest.orders up f t)))

  pub denotes_optional : (u a m e left : ℕ) (greedy : Bool) (x : Tree) → T u ≡ choice greedy a e → Denotes back T a m x →
      Denotes back T m e (repetition 0 (Some left) greedy x) → Denotes back T u e (repetition 0 (Some (suc left)) greedy x)
  denotes_optional u a m e left greedy x is body rest = record {
    reaches = λ t. few_reaches u a m e left greedy x body rest t (goes_choice back t T u greedy a e is);
    halts = λ f t. few_halts u a m e left greedy x body rest t (goes_choice back t T u greedy a e is) f;
    orders = λ up f t. few_orders u a m e left greedy x body rest t up f (goes_choice false t T u greedy a e is);
  }

  -- ---- loops

  star_orders : (q u a e : ℕ) (greedy : Bool) (x : Tree) → T u ≡ choice greedy a e → T q ≡ choice greedy a e → Denotes back T a u x →
      (t : Text) → back ≡ false →
      LoopsRead (repetition 0 None greedy x) → Orders t T q e (preferred_ends t.holds (seen t) (repetition 0 None greedy x))
  star_orders q u a e greedy x loop entry body t up f =
      orders_rounds t T greedy a u e (preferred_ends t.holds (seen t) x) (preferred_ends t.holds (seen t) (repetition 0 None greedy x))
      (length (seen t))
      (λ i k h.
      let m = preferred_ends_sound t.holds (seen t) x i k h in
      let longer = reads_a_byte t.holds (seen t) x f.0 i k m in
      let span = IsSpan-Means t.holds (seen t) x i k m in
      let within = span.within in
      (longer, omega arith))
      (repetition_more t.holds (seen t) greedy x f.0) (goes_choice false t T u greedy a e loop) (body.orders up f.1 t) q
      (goes_choice false t T q greedy a e entry)

  star_halts : (q u a e : ℕ) (greedy : Bool) (x : Tree) → T u ≡ choice greedy a e → T q ≡ choice greedy a e → Denotes back T a u x →
      (t : Text) →
      LoopsRead (repetition 0 None greedy x) → Halts back t T q e (IsMeant back t (repetition 0 None greedy x))
  star_halts q u a e greedy x loop entry body t f =
      halts_like back t T q e (λ i j. (n : ℕ) × Rounds (IsMeant back t x) n i j) (IsMeant back t (repetition 0 None greedy x))
      (λ i j r. rounds_meant back t 0 None greedy x i j (r.0, omega arith, tt, r.1))
      (halts_rounds back t T greedy a u e (IsMeant back t x) (left_to_read back t) (reads_on back t x f.0)
      (goes_choice back t T u greedy a e loop) (body.halts f.1 t) q
      (goes_choice back t T q greedy a e entry))

  -- a loop, entered at any state that chooses between its body and e
  pub denotes_star : (q u a e : ℕ) (greedy : Bool) (x : Tree) → T u ≡ choice greedy a e → T q ≡ choice greedy a e → Denotes back T a u x →
      Denotes back T q e (repetition 0 None greedy x)
  denotes_star q u a e greedy x loop entry body = record {
    reaches = λ t.
        reaches_like back t T q e (λ i j. (n : ℕ) × Rounds (IsMeant back t x) n i j) (IsMeant back t (repetition 0 None greedy x))
        (λ i j m. let r = meant_rounds back t 0 None greedy x i j m in (r.0, r.3))
        (λ i j r. rounds_meant back t 0 None greedy x i j (r.0, omega arith, tt, r.1))
        (reaches_rounds back t T greedy a u e (IsMeant back t x) (goes_choice back t T u greedy a e loop) (body.reaches t) q
        (goes_choice back t T q greedy a e entry));
    halts = λ f t. star_halts q u a e greedy x loop entry body t f;
    orders = λ up f t. star_orders q u a e greedy x loop entry body t up f;
  }

  -- a body, and then the loop
  pub denotes_plus : (u a e : ℕ) (greedy : Bool) (x : Tree) → T u ≡ choice greedy a e → Denotes back T a u x →
      Denotes back T a e (repetition 1 None greedy x)
  denotes_plus u a e greedy x loop body = denotes_copy a u e 0 None greedy x body (denotes_star u u a e greedy x loop loop body)
