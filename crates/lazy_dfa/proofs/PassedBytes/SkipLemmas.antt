-- Runs over bytes that are read one by one, and over bytes that are skipped.
use Rattle.std.proofs.Common.{◌≡◌, ℕ, zero, suc, ◌+◌, ◌-◌, ◌<◌, ◌≤◌, false, List, length, Option, Some, get_or, refl, sym, subst, arith}
use Rattle.lazy_dfa.specs.Caches.{CacheValue, IsCacheOf, IsRow}
use Rattle.lazy_dfa.specs.Dfas.{Dfa, IsDfa, class_of}
use Rattle.lazy_dfa.specs.Ids.{tag}
use Rattle.lazy_dfa.specs.Points.{GoesTo, point}
use Rattle.lazy_dfa.specs.Skips.{StaysOver}
use Rattle.lazy_dfa.specs.Stretches.{MovesTo, SkipsTo}
use Rattle.lazy_dfa.specs.declared.search.runs.Moved.{Moved}
use Rattle.lazy_dfa.proofs.CacheChanges.ChangeLemmas.{plain_noted}
use Rattle.lazy_dfa.proofs.CacheChanges.LinkedLemmas.{AreBytes}
use Rattle.lazy_dfa.proofs.Courses.PointLemmas.{goes_on, runs_none, runs_on, next_row, forward_unit, forward_place}

-- if bytes are counted, a path begins with none
pub stands : (d : Dfa) (v : CacheValue) (h : List ℕ) → IsCacheOf d v → (from id : ℕ) → IsRow v id → (m n : ℕ) (best : Option (ℕ × ℕ)) →
    GoesTo d h (point v m n from id best) (point v m n (from + 0) id best) (from + 0 - from)
stands d v h own from id row = subst (λ (j : ℕ). (m n : ℕ) (best : Option (ℕ × ℕ)) → GoesTo d h (point v m n from id best)
    (point v m n j id best) (j - from)) (omega arith) (runs_none d v h from id (from - from) own row (omega arith))

module _ (d : Dfa) (v : CacheValue) (h : List ℕ) (made : IsDfa d) (own : IsCacheOf d v) (bytes : AreBytes h)
    (up : d.nfa.automaton.reverse ≡ false) where
  -- the path goes on by a byte whose step is known
  module _ (from first at id : ℕ) (row : IsRow v first) (here : IsRow v id) (low : id < tag) (past : from ≤ at) (inside : at < length h)
      (so_far : (m n : ℕ) (best : Option (ℕ × ℕ)) → GoesTo d h (point v m n from first best) (point v m n at id best) (at - from))
      (next c : ℕ) (class : c ≡ class_of d.classes (Some (get_or h at 0))) (read : next ≡ get_or v.cells (id + c) 0)
      (plain : next < tag) where
    pub row_on : IsRow v next
    row_on = next_row d v id next (Some (get_or h at 0)) own (bytes at) here
        (plain_noted d v id c (get_or h at 0) next class low read) plain

    pub way_on : (m n : ℕ) (best : Option (ℕ × ℕ)) → GoesTo d h (point v m n from first best) (point v m n (at + 1) next best)
        (at + 1 - from)
    way_on m n best = runs_on d v h made own bytes from first at id row here (at - from) m n best (so_far m n best) next (at + 1)
        (at + 1 - from) (Some (get_or h at 0)) (bytes at)
        (plain_noted d v id c (get_or h at 0) next class low read) plain (forward_unit d h at up inside) (forward_place d at up)
        (omega (arith, past))

  -- the path goes on by such a byte, if bytes are counted
  module _ (from first k id : ℕ) (row : IsRow v first) (here : IsRow v id) (low : id < tag) (inside : from + k < length h)
      (so_far : (m n : ℕ) (best : Option (ℕ × ℕ)) →
      GoesTo d h (point v m n from first best) (point v m n (from + k) id best) (from + k - from))
      (next c : ℕ) (class : c ≡ class_of d.classes (Some (get_or h (from + k) 0))) (read : next ≡ get_or v.cells (id + c) 0)
      (plain : next < tag) where
    pub row_next : IsRow v next
    row_next = row_on from first (from + k) id row here low (omega arith) inside so_far next c class read plain

    pub way_next : (m n : ℕ) (best : Option (ℕ × ℕ)) → GoesTo d h (point v m n from first best) (point v m n (from + (k + 1)) next best)
        (from + (k + 1) - from)
    way_next = subst (λ (j : ℕ). (m n : ℕ) (best : Option (ℕ × ℕ)) → GoesTo d h (point v m n from first best) (point v m n j next best)
        (j - from)) (omega arith)
        (way_on from first (from + k) id row here low (omega arith) inside so_far next c class read plain)

  -- the path goes on over bytes that leave the state as it is
  module _ (from first at id : ℕ) (row : IsRow v first) (here : IsRow v id) (low : id < tag) (past : from ≤ at)
      (so_far : (m n : ℕ) (best : Option (ℕ × ℕ)) → GoesTo d h (point v m n from first best) (point v m n at id best) (at - from)) where
    stays_on : (k : ℕ) → at + k ≤ length h → StaysOver v.cells v.classes h id at (at + k) →
        (m n : ℕ) (best : Option (ℕ × ℕ)) → GoesTo d h (point v m n from first best) (point v m n (at + k) id best) (at + k - from)
    stays_on zero within stays = subst (λ (j : ℕ). (m n : ℕ) (best : Option (ℕ × ℕ)) →
        GoesTo d h (point v m n from first best) (point v m n j id best) (j - from)) (omega arith) so_far
    stays_on (suc k) within stays =
        let before = stays_on k (omega (arith, within)) (λ j l m. stays j l (omega (arith, m))) in
        let b = get_or h (at + k) 0 in
        let read : id ≡ get_or v.cells (id + class_of d.classes (Some b)) 0 =
        sym (subst (λ (cs : List ℕ). get_or v.cells (id + class_of cs (Some b)) 0 ≡ id) own.classes
        (stays (at + k) (omega arith) (omega arith))) in
        subst (λ (j : ℕ). (m n : ℕ) (best : Option (ℕ × ℕ)) → GoesTo d h (point v m n from first best) (point v m n j id best) (j - from))
        (omega arith)
        (way_on from first (at + k) id row here low (omega (arith, past)) (omega (arith, within)) before id
        (class_of d.classes (Some b)) refl read low)

    pub way_over : (to : ℕ) → at ≤ to → to ≤ length h → StaysOver v.cells v.classes h id at to →
        (m n : ℕ) (best : Option (ℕ × ℕ)) → GoesTo d h (point v m n from first best) (point v m n to id best) (to - from)
    way_over to l within stays =
        let e : at + (to - at) ≡ to = omega (arith, l) in
        subst (λ (j : ℕ). (m n : ℕ) (best : Option (ℕ × ℕ)) → GoesTo d h (point v m n from first best) (point v m n j id best) (j - from)) e
        (stays_on (to - at) (omega (arith, e, within)) (subst (StaysOver v.cells v.classes h id at) (sym e) stays))

  -- two paths, one after the other
  pub way_behind : (from first at id to next : ℕ) → IsRow v first → IsRow v id → from ≤ at → at ≤ to →
      ((m n : ℕ) (best : Option (ℕ × ℕ)) → GoesTo d h (point v m n from first best) (point v m n at id best) (at - from)) →
      ((m n : ℕ) (best : Option (ℕ × ℕ)) → GoesTo d h (point v m n at id best) (point v m n to next best) (to - at)) →
      (m n : ℕ) (best : Option (ℕ × ℕ)) → GoesTo d h (point v m n from first best) (point v m n to next best) (to - from)
  way_behind from first at id to next row here past further so_far on m n best =
      subst (λ (j : ℕ). GoesTo d h (point v m n from first best) (point v m n to next best) j) (sum (past) further)
      (goes_on d h made bytes (point v m n from first best) (point v m n at id best) (point v m n to next best) (at - from)
      (to - at) own own row (so_far m n best) (on m n best))
    where
      sum : from ≤ at → at ≤ to → (at - from) + (to - at) ≡ to - from
      sum l m = omega (arith, l, m)

  -- one byte leads to another state, and the next one leads back
  module _ (at id : ℕ) (here : IsRow v id) (low : id < tag) (inside : at + 1 < length h) (next c : ℕ)
      (class : c ≡ class_of d.classes (Some (get_or h at 0))) (read : next ≡ get_or v.cells (id + c) 0) (plain : next < tag) where
    begins : (m n : ℕ) (best : Option (ℕ × ℕ)) → GoesTo d h (point v m n at id best) (point v m n at id best) (at - at)
    begins = runs_none d v h at id (at - at) own here (omega arith)

    pub row_once : IsRow v next
    row_once = row_on at id at id here here low (omega arith) (omega (arith, inside)) begins next c class read plain

    pub way_back : (k : ℕ) → k ≡ class_of d.classes (Some (get_or h (at + 1) 0)) → id ≡ get_or v.cells (next + k) 0 →
        (m n : ℕ) (best : Option (ℕ × ℕ)) → GoesTo d h (point v m n at id best) (point v m n (at + 2) id best) 2
    way_back k second back m n best =
        let once = way_on at id at id here here low (omega arith) (omega (arith, inside)) begins next c class read plain in
        let twice = way_on at id (at + 1) next here row_once plain (omega arith) inside once id k second back low m n best in
        subst (λ (j : ℕ). GoesTo d h (point v m n at id best) (point v m n j id best) 2) (omega arith)
        (subst (GoesTo d h (point v m n at id best) (point v m n (at + 1 + 1) id best)) (omega arith) twice)

  -- nothing is read
  pub reads_none : (a : Moved) (end : ℕ) → IsRow v a.id → a.id < tag → a.at ≤ end → MovesTo d v h a end a
  reads_none a end row plain fits = record {
    row = row;
    untagged = plain;
    past = omega arith;
    within = fits;
    goes = runs_none d v h a.at a.id (a.at - a.at) own row (omega arith);
  }

  -- one more byte is read, whose step is known
  pub reads_byte : (a b : Moved) (end : ℕ) → IsRow v a.id → MovesTo d v h a end b → b.at < end → end ≤ length h →
      (next c : ℕ) → c ≡ class_of d.classes (Some (get_or h b.at 0)) → next ≡ get_or v.cells (b.id + c) 0 → next < tag →
      MovesTo d v h a end (record { at = b.at + 1; id = next })
  reads_byte a b end row reads more fits next c class read plain =
      let inside : b.at < length h = omega (arith, more, fits) in
      record {
        row = row_on a.at a.id b.at b.id row reads.row reads.untagged reads.past inside reads.goes next c class read plain;
        untagged = plain;
        past = omega (arith, reads.past);
        within = omega (arith, more);
        goes = way_on a.at a.id b.at b.id row reads.row reads.untagged reads.past inside reads.goes next c class read plain;
      }

  -- the same if bytes are counted
  pub counts_none : (a : Moved) (most : ℕ) → IsRow v a.id → a.id < tag → MovesTo d v h a (a.at + most) (record { at = a.at + 0; id = a.id })
  counts_none a most row plain = subst (λ (j : ℕ). MovesTo d v h a (a.at + most) (record { at = j; id = a.id })) (omega arith)
      (reads_none a (a.at + most) row plain (omega arith))

  pub counts_byte : (a : Moved) (k id most : ℕ) → IsRow v a.id → MovesTo d v h a (a.at + most) (record { at = a.at + k; id = id }) →
      k < most → a.at + most ≤ length h →
      (next c : ℕ) → c ≡ class_of d.classes (Some (get_or h (a.at + k) 0)) → next ≡ get_or v.cells (id + c) 0 → next < tag →
      MovesTo d v h a (a.at + most) (record { at = a.at + (k + 1); id = next })
  counts_byte a k id most row reads more fits next c class read plain =
      subst (λ (j : ℕ). MovesTo d v h a (a.at + most) (record { at = j; id = next })) (omega arith)
      (reads_byte a (record { at = a.at + k; id = id }) (a.at + most) row reads (omega (arith, more)) fits next c class read plain)

  -- what is read further, after what was read
  pub reads_on : (a b c : Moved) (middle end : ℕ) → IsRow v a.id → MovesTo d v h a middle b → MovesTo d v h b end c → MovesTo d v h a end c
  reads_on a b c middle end row before on = record {
    row = on.row;
    untagged = on.untagged;
    past = omega (arith, before.past, on.past);
    within = on.within;
    goes = way_behind a.at a.id b.at b.id c.at c.id row before.row before.past on.past before.goes on.goes;
  }

  -- bytes that leave the state as it is are skipped, too
  pub skips_over : (id from at to end : ℕ) → IsRow v id → id < tag → SkipsTo d v h id from end at → at ≤ to → to ≤ end → end ≤ length h →
      StaysOver v.cells v.classes h id at to → SkipsTo d v h id from end to
  skips_over id from at to end row plain before further within fits stays = record {
    past = omega (arith, before.past, further);
    within = within;
    goes = way_over from id at id row row plain before.past before.goes to further (omega (arith, within, fits)) stays;
  }

  -- bytes are skipped, after what was read
  pub reads_skip : (a b : Moved) (end to : ℕ) → IsRow v a.id → MovesTo d v h a end b → SkipsTo d v h b.id b.at end to →
      MovesTo d v h a end (record { at = to; id = b.id })
  reads_skip a b end to row before skips = record {
    row = before.row;
    untagged = before.untagged;
    past = omega (arith, before.past, skips.past);
    within = skips.within;
    goes = way_behind a.at a.id b.at b.id to b.id row before.row before.past skips.past before.goes skips.goes;
  }

  pub reads_within : (a b : Moved) (middle end : ℕ) → MovesTo d v h a middle b → middle ≤ end → MovesTo d v h a end b
  reads_within a b middle end reads l = record {
    row = reads.row;
    untagged = reads.untagged;
    past = reads.past;
    within = omega (arith, reads.within, l);
    goes = reads.goes;
  }

  -- what is read further, over an equal cache and not so far
  pub reads_there : (w : CacheValue) → w ≡ v → (a b c : Moved) (middle end : ℕ) → IsRow v a.id → MovesTo d v h a end b →
      MovesTo d w h b middle c → middle ≤ end → MovesTo d v h a end c
  reads_there w same a b c middle end row before on l = reads_on a b c end end row before
      (reads_within b c middle end (subst (λ (x : CacheValue). MovesTo d x h b middle c) same on) l)

  pub reads_thrice : (a b c e : Moved) (end : ℕ) → IsRow v a.id → MovesTo d v h a end b → MovesTo d v h b end c → MovesTo d v h c end e →
      MovesTo d v h a end e
  reads_thrice a b c e end row first second third = reads_on a b e end end row first (reads_on b c e end end first.row second third)
