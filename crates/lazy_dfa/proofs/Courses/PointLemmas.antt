-- How a scan gets from point to point: not at all, further, and through one unit.
use Rattle.std.proofs.Common.{◌≡◌, ◌≢◌, ◌⊎◌, ℕ, zero, suc, ◌+◌, ◌-◌, ◌*◌, ◌<◌, ◌≤◌, Bool, true, false, List, length, Option, Some, None}
use Rattle.std.proofs.Common.{get_or, refl, sym, ap, ◌∙◌, subst, inl, inr, ⊎_elim, arith}
use Rattle.std.specs.Prelude.{min, IsSome}
use Rattle.std.proofs.lemmas.Bool.{cases_Bool}
use Rattle.std.proofs.lemmas.Option.{slice_get-get_or}
use Rattle.std.proofs.Math.Nat.{add-mul}
use Rattle.search_core.specs.Text.{byte_before}
use Rattle.nfa_core.specs.Ways.{offset_of}
use Rattle.determinize_core.specs.States.{StateValue}
use Rattle.determinize_core.specs.StateBytes.{is_match}
use Rattle.determinize_core.specs.Steps.{unit_at}
use Rattle.lazy_dfa.specs.Caches.{CacheValue, IsShaped, IsCacheOf, IsRow, HeldAt, Names, names_dead, names_held, Leads, begun_anew}
use Rattle.lazy_dfa.specs.Caches.{state_at, greatest}
use Rattle.lazy_dfa.specs.Changes.{unchanged, IsMadeAt}
use Rattle.lazy_dfa.specs.Courses.{state_after, best_after}
use Rattle.lazy_dfa.specs.declared.cache.progress.Progress.{Progress}
use Rattle.lazy_dfa.specs.Dfas.{Dfa, IsDfa, IsUnit, after, reader}
use Rattle.lazy_dfa.specs.Ids.{tag, tagged, unknown_id, is_sentinel}
use Rattle.lazy_dfa.specs.Linked.{led, id_after, IsLinkedOver, HasCleared}
use Rattle.lazy_dfa.specs.ScanLaws.{unit_of}
use Rattle.lazy_dfa.specs.Scans.{best_recorded, is_dead}
use Rattle.lazy_dfa.specs.Points.{Point, began, Follows, IsFree, GoesTo, point}
use Rattle.lazy_dfa.specs.Readers.{is_quit}
use Rattle.lazy_dfa.specs.Steps.{IsHeld, StepsTo, Grew, WasCleared, KeepsOrClears, noted, IsKnown, IsNoted, StepAdds, most_inserts}
use Rattle.lazy_dfa.proofs.CacheChanges.AddsLemmas.{step_adds_none}
use Rattle.lazy_dfa.proofs.CacheChanges.ChangeLemmas.{same_grew, grew_refl, one_state}
use Rattle.lazy_dfa.proofs.CacheChanges.ChangesLemmas.{changes_into, changes_on, made_before, made_behind, step_changes}
use Rattle.lazy_dfa.proofs.Courses.CourseLemmas.{state_there, best_there, read_there, state_behind_one, best_behind_one, read_one, not_dead}
use Rattle.lazy_dfa.proofs.Courses.CourseLemmas.{unmatched}
use Rattle.lazy_dfa.proofs.CacheChanges.IsCacheLemmas.{row_is_plain, le_of}
use Rattle.lazy_dfa.proofs.CacheChanges.LinkedLemmas.{AreBytes, row_grows, grows_refl, grows_trans, grew_grows, has_cleared, cleared_grows}
use Rattle.lazy_dfa.proofs.CacheChanges.LinkedLemmas.{moved_refl}
use Rattle.lazy_dfa.proofs.CacheChanges.LinkedLemmas.{moved_trans, moved_same}
use Rattle.lazy_dfa.proofs.CacheChanges.LinkedLemmas.{id_moved}
use Rattle.lazy_dfa.proofs.CacheChanges.LinkedLemmas.{linked_moved, id_grows, linked_grows, linked_none, linked_less, id_split}
use Rattle.lazy_dfa.proofs.CacheChanges.LinkedLemmas.{linked_split}
use Rattle.lazy_dfa.proofs.CacheChanges.LinkedLemmas.{linked_join, led_row, held_named, row_leads}
use Rattle.nfa_core.proofs.ForCallers.{place_zero}
use Rattle.lazy_dfa.proofs.HalfSearches.FoundLemmas.{place_add}

-- ---- IDs that are held

pub held_known : (v : CacheValue) (id : ℕ) → IsShaped v → IsHeld v id → id ≢ unknown_id
held_known v id i (inl e) z = omega (arith, e, z, i.narrow)
held_known v id i (inr (inl e)) z = omega (arith, e, z, i.narrow)
held_known v id i (inr (inr r)) z = let l = row_is_plain v id r.0 i r.1 r.2 in omega (arith, l, z)

pub row_known : (v : CacheValue) (id : ℕ) → IsShaped v → IsRow v id → id ≢ unknown_id
row_known v id i r = held_known v id i (inr (inr r))

-- an ID of a row names only the state that the row holds
pub held_plain : (v : CacheValue) (id : ℕ) (s : StateValue) → id < 0x2000_0000 → Names v id s → HeldAt v id s
held_plain v id s l (names_dead e f) = absurd (omega (arith, e, l))
held_plain v id s l (names_held h) = h

pub plain_row : (id : ℕ) → id < 0x2000_0000 → is_sentinel id ≡ false
plain_row id l = ⊎_elim
    (λ (e : is_sentinel id ≡ true). let g = le_of 0x2000_0000 id e in absurd (omega (arith, l, g)))
    (λ (e : is_sentinel id ≡ false). e)
    (cases_Bool (is_sentinel id))

-- ---- no unit

module _ (d : Dfa) (h : List ℕ) where
  pub goes_none : (p : Point) → p.id ≢ unknown_id → GoesTo d h p p 0
  goes_none p n = record {
    place = sym (place_zero d.nfa.automaton.reverse p.at);
    names = λ s named. named;
    read = λ s named k lt. absurd (omega (arith, lt));
    best = λ s named. refl;
    kept = inl (record {
      grows = grows_refl d p.cache;
      leads = refl;
      linked = linked_none d p.cache h p.at p.id n;
      searched = refl;
      began = refl;
    });
    free = λ l. record { moved = moved_refl p.cache; leads = refl; determinized = refl; inserted = refl };
    running = λ r. r;
    determinized = omega arith;
    inserted = omega arith;
    changes = λ s named. unchanged p.cache 0 refl;
  }

-- ---- further on

-- a path to an offset and an ID, and on from there
module _ (d : Dfa) (v : CacheValue) (h : List ℕ) (i id j x k : ℕ) (there : j ≡ offset_of d.nfa.automaton.reverse i k)
    (leads : id_after d v h i id k ≡ x) where
  pub id_on : (l : ℕ) → id_after d v h i id (k + l) ≡ id_after d v h j x l
  id_on l = id_split d v h i id k l
      ∙ (ap (λ (y : ℕ). id_after d v h (offset_of d.nfa.automaton.reverse i k) y l) leads
      ∙ ap (λ (p : ℕ). id_after d v h p x l) (sym there))

  pub linked_from : (l : ℕ) → IsLinkedOver d v h i id (k + l) → IsLinkedOver d v h j x l
  linked_from l linked =
      subst (λ (p : ℕ). IsLinkedOver d v h p x l) (sym there)
      (subst (λ (y : ℕ). IsLinkedOver d v h (offset_of d.nfa.automaton.reverse i k) y l) leads (linked_split d v h i id k l linked))

  pub linked_on : (l : ℕ) → IsLinkedOver d v h i id k → IsLinkedOver d v h j x l → IsLinkedOver d v h i id (k + l)
  linked_on l before behind = linked_join d v h i id k l before
      (subst (λ (y : ℕ). IsLinkedOver d v h (offset_of d.nfa.automaton.reverse i k) y l) (sym leads)
      (subst (λ (p : ℕ). IsLinkedOver d v h p x l) there behind))

pub sum_of : (a b c k l m : ℕ) → b ≤ a + k * m → c ≤ b + l * m → c ≤ a + (k + l) * m
sum_of a b c k l m f g = let e = add-mul k l m in omega (arith, e, f, g)

module _ (d : Dfa) (h : List ℕ) (made : IsDfa d) (bytes : AreBytes h) (a b c : Point) (k l : ℕ) (own : IsCacheOf d a.cache)
    (mine : IsCacheOf d b.cache) (row : IsRow a.cache a.id)
    (f : GoesTo d h a b k) (g : GoesTo d h b c l) where
  follows_on : Follows d h a b k → Follows d h b c l → Follows d h a c (k + l)
  follows_on x y =
      let held : IsHeld b.cache a.id = inr (inr (row_grows d a.cache b.cache own x.grows a.id row)) in
      let leads = id_grows d b.cache c.cache mine y.grows h bytes a.at a.id k held x.linked k (omega arith) ∙ x.leads in
      record {
        grows = grows_trans d a.cache b.cache c.cache made own x.grows y.grows;
        leads = id_on d c.cache h a.at a.id b.at b.id k f.place leads l ∙ y.leads;
        linked = linked_on d c.cache h a.at a.id b.at b.id k f.place leads l
            (linked_grows d b.cache c.cache mine y.grows h bytes a.at a.id k held x.linked) y.linked;
        searched = y.searched ∙ x.searched;
        began = y.began ∙ x.began;
      }

  kept_on : Follows d h a c (k + l) ⊎ HasCleared a.cache c.cache
  kept_on = ⊎_elim
      (λ (x : Follows d h a b k). ⊎_elim
      (λ (y : Follows d h b c l). inl (follows_on x y))
      (λ (y : HasCleared b.cache c.cache). inr (subst (λ (n : ℕ). min (n + 1) greatest ≤ c.cache.clears) x.grows.clears y))
      g.kept)
      (λ (x : HasCleared a.cache b.cache). inr (⊎_elim
      (λ (y : Follows d h b c l). cleared_grows d a.cache b.cache c.cache x (inl y.grows))
      (λ (y : HasCleared b.cache c.cache). cleared_grows d a.cache b.cache c.cache x (inr y))
      g.kept))
      f.kept

  free_on : IsLinkedOver d a.cache h a.at a.id (k + l) → IsFree d h a c (k + l)
  free_on linked =
      let x = f.free (linked_less d a.cache h a.at a.id (k + l) k linked (omega arith)) in
      let y = g.free (linked_moved d a.cache b.cache x.moved h b.at b.id l
      (linked_from d a.cache h a.at a.id b.at b.id k f.place x.leads l linked)) in
      record {
        moved = moved_trans a.cache b.cache c.cache x.moved y.moved;
        leads = id_on d a.cache h a.at a.id b.at b.id k f.place x.leads l
            ∙ (sym (id_moved d a.cache b.cache x.moved h b.at b.id l) ∙ y.leads);
        determinized = y.determinized ∙ x.determinized;
        inserted = y.inserted ∙ x.inserted;
      }

  pub goes_on : GoesTo d h a c (k + l)
  goes_on = record {
    place = g.place ∙ (ap (λ (p : ℕ). offset_of d.nfa.automaton.reverse p l) f.place ∙ place_add d.nfa.automaton.reverse a.at k l);
    names = λ s named. subst (Names c.cache c.id) (state_there (reader d) h a.at b.at k f.place s l)
        (g.names (state_after (reader d) h a.at s k) (f.names s named));
    read = λ s named. read_there (reader d) h a.at b.at k f.place s l (f.read s named)
        (g.read (state_after (reader d) h a.at s k) (f.names s named));
    best = λ s named.
        g.best (state_after (reader d) h a.at s k) (f.names s named)
        ∙ (ap (λ (o : Option (ℕ × ℕ)). best_after (reader d) h b.at (state_after (reader d) h a.at s k) o l) (f.best s named)
        ∙ best_there (reader d) h a.at b.at k f.place s a.best l);
    kept = kept_on;
    free = free_on;
    running = λ r. g.running (f.running r);
    determinized = let x = f.determinized in let y = g.determinized in omega (arith, x, y);
    inserted = sum_of a.inserted b.inserted c.inserted k l (most_inserts d) f.inserted g.inserted;
    changes = λ s named.
        let read = f.read s named in
        changes_on d (IsMadeAt (reader d) h a.at s (k + l)) a.cache b.cache k
        (changes_into d (IsMadeAt (reader d) h a.at s k) (IsMadeAt (reader d) h a.at s (k + l))
        (made_before (reader d) h a.at b.at k l f.place s read) a.cache b.cache k (f.changes s named))
        c.cache l (k + l) (omega arith)
        (changes_into d (IsMadeAt (reader d) h b.at (state_after (reader d) h a.at s k) l) (IsMadeAt (reader d) h a.at s (k + l))
        (made_behind (reader d) h a.at b.at k l f.place s read) b.cache c.cache l
        (g.changes (state_after (reader d) h a.at s k) (f.names s named)));
  }

-- ---- one unit

pub runs_anew : (p : Option Progress) → IsSome p → IsSome (begun_anew p)
runs_anew None r = r
runs_anew (Some p) r = refl

pub one_time : (a b m : ℕ) → b ≤ a + m → b ≤ a + 1 * m
one_time a b m l = omega (arith, l)

module _ (d : Dfa) (h : List ℕ) (old : CacheValue) (at id : ℕ) (u : Option ℕ) (own : IsCacheOf d old) (row : IsRow old id)
    (is : u ≡ unit_of (reader d) h at 0) (quiet : is_quit d.quits u ≡ false) where
  low : id < 0x2000_0000
  low = row_is_plain old id row.0 own.shape row.1 row.2

  abbrev from : StateValue
  from = state_at old row.0

  held_from : HeldAt old id from
  held_from = (row.0, row.1, row.2, refl)

  alive : (s : StateValue) → HeldAt old id s → is_dead s ≡ false
  alive s n = not_dead s (λ e. own.lives n.0 n.1 (sym n.3 ∙ e))

  id_one : (v : CacheValue) → id_after d v h at id 1 ≡ noted d v id u
  id_one v = ap (led d v id) (sym is) ∙ led_row d v id u (plain_row id low)

  module _ (new : CacheValue) (to m1 m2 n1 n2 : ℕ) (best1 best2 : Option (ℕ × ℕ)) (mine : IsCacheOf d new) (kept : KeepsOrClears d old new)
      (step : StepsTo d old new id u to) (there : IsNoted d old new id u to) (same : IsKnown d old id u →
      new ≡ old) (free : IsKnown d old id u → (m2 ≡ m1) × (n2 ≡ n1))
      (determinized : m2 ≤ m1 + 1) (inserted : n2 ≤ n1 + most_inserts d)
      (best : (s : StateValue) → HeldAt old id s → best2 ≡ best_recorded at (after d s u) best1) (adds : StepAdds d old new id u) where
    abbrev here : Point
    here = point old m1 n1 at id best1

    abbrev next : Point
    next = point new m2 n2 (offset_of d.nfa.automaton.reverse at 1) to best2

    to_known : to ≢ unknown_id
    to_known = held_known new to mine.shape (held_named new to (after d from u) ((step from held_from).goes quiet))

    follows_one : Grew d old new → Follows d h here next 1
    follows_one g =
        let noted_is : noted d new id u ≡ to = there from held_from (held_plain new id from low (g.names id from (names_held held_from))) in
        record {
          grows = grew_grows d old new g;
          leads = id_one new ∙ noted_is;
          linked = record { start = row_known old id own.shape row; steps = λ k lt. first_known noted_is k lt };
          searched = g.searched;
          began = ap began g.progress;
        }
      where
        first_known : noted d new id u ≡ to → (k : ℕ) → k < 1 → IsKnown d new (id_after d new h at id k) (unit_of (reader d) h at k)
        first_known e zero lt = subst (IsKnown d new id) is (inr (λ z. to_known (sym e ∙ z)))
        first_known e (suc k) lt = absurd (omega (arith, lt))

    free_one : IsLinkedOver d old h at id 1 → IsFree d h here next 1
    free_one l =
        let known : IsKnown d old id u = subst (IsKnown d old id) (sym is) (l.steps 0 (omega arith)) in
        let e = same known in
        let noted_is : noted d new id u ≡ to = there from held_from (subst (λ (v : CacheValue). HeldAt v id from) (sym e) held_from) in
        record {
          moved = moved_same old new e;
          leads = id_one old ∙ (ap (λ (v : CacheValue). noted d v id u) (sym e) ∙ noted_is);
          determinized = (free known).0;
          inserted = (free known).1;
        }

    running_one : IsSome old.progress → IsSome new.progress
    running_one r = ⊎_elim
        (λ (g : Grew d old new). subst (λ (p : Option Progress). IsSome p) (sym g.progress) r)
        (λ (w : WasCleared old new 2). subst (λ (p : Option Progress). IsSome p) (sym w.progress) (runs_anew old.progress r))
        kept

    pub goes_step : GoesTo d h here next 1
    goes_step = record {
      place = refl;
      names = λ s named. subst (Names new to) (sym (state_behind_one d h at u is s)) ((step s (held_plain old id s low named)).goes quiet);
      read = λ s named. read_one d h at u is s (alive s (held_plain old id s low named)) quiet;
      best = λ s named. best s (held_plain old id s low named) ∙ best_behind_one d h at u is s best1;
      kept = ⊎_elim (λ (g : Grew d old new). inl (follows_one g)) (λ (w : WasCleared old new 2). inr (has_cleared old new 2 w)) kept;
      free = free_one;
      running = running_one;
      determinized = determinized;
      inserted = one_time n1 n2 (most_inserts d) inserted;
      changes = λ s named. step_changes d h old at id u own row is new adds s (held_plain old id s low named);
    }

-- ---- one unit by a step that is known and leads to an untagged ID

no_match : (b m : Bool) (p : ℕ) → tagged b m p < tag → m ≡ false
no_match b false p l = refl
no_match true true p l = absurd (omega (arith, l))
no_match false true p l = absurd (omega (arith, l))

pub untagged_match : (v : CacheValue) (id : ℕ) (s : StateValue) → IsShaped v → id < tag → HeldAt v id s → is_match s.matches ≡ false
untagged_match v id s i low g =
    let t = i.tags g.0 g.1 in
    ap (λ (x : StateValue). is_match x.matches) g.3 ∙ no_match t.0 (is_match (state_at v g.0).matches) ((g.0 + 3) * v.stride)
    (subst (λ (n : ℕ). n < tag) (g.2 ∙ t.1) low)

module _ (d : Dfa) (v : CacheValue) (id next : ℕ) (u : Option ℕ) (own : IsCacheOf d v) (unit : IsUnit u) (row : IsRow v id)
    (read : next ≡ noted d v id u) (plain : next < tag) where
  noted_known : noted d v id u ≢ unknown_id
  noted_known z = omega (arith, read, plain, z)

  next_leads : (s : StateValue) → HeldAt v id s → Leads d v s u next
  next_leads s g = subst (λ (n : ℕ). Leads d v s u n) (sym read)
      (subst (λ (t : StateValue). Leads d v t u (noted d v id u)) (one_state v id row.0 s own.shape row.1 row.2 g)
      (row_leads d v id u own unit row noted_known))

  pub next_quiet : is_quit d.quits u ≡ false
  next_quiet = ⊎_elim
      (λ (e : is_quit d.quits u ≡ true). let q = (next_leads (state_at v row.0) (row.0, row.1, row.2, refl)).quits e in
      absurd (omega (arith, q, plain)))
      (λ (e : is_quit d.quits u ≡ false). e)
      (cases_Bool (is_quit d.quits u))

  next_held : (s : StateValue) → HeldAt v id s → HeldAt v next (after d s u)
  next_held s g = held_plain v next (after d s u) (omega (arith, plain)) ((next_leads s g).goes next_quiet)

  pub next_row : IsRow v next
  next_row = let g = next_held (state_at v row.0) (row.0, row.1, row.2, refl) in (g.0, g.1, g.2)

  pub goes_known : (h : List ℕ) (at m n : ℕ) (best : Option (ℕ × ℕ)) → u ≡ unit_of (reader d) h at 0 →
      GoesTo d h (point v m n at id best) (point v m n (offset_of d.nfa.automaton.reverse at 1) next best) 1
  goes_known h at m n best is = goes_step d h v at id u own row is next_quiet v next m m n n best best own (grew_refl d v)
      next_leads (λ s g f. sym read) (λ k. refl) (λ k. (refl, refl)) (omega arith) (omega arith)
      (λ s g. unmatched (after d s u) at best (untagged_match v next (after d s u) own.shape plain (next_held s g)))
      (step_adds_none d v v id u (same_grew d v) (refl, refl, refl))

-- a run over known steps goes on
module _ (d : Dfa) (v : CacheValue) (h : List ℕ) (made : IsDfa d) (own : IsCacheOf d v) (bytes : AreBytes h) (from first at id : ℕ)
    (row : IsRow v first) (here : IsRow v id)
    (k m n : ℕ) (best : Option (ℕ × ℕ)) (so_far : GoesTo d h (point v m n from first best) (point v m n at id best) k) where
  pub runs_on : (next at2 k2 : ℕ) (u : Option ℕ) → IsUnit u → next ≡ noted d v id u → next < tag → u ≡ unit_of (reader d) h at 0 →
      offset_of d.nfa.automaton.reverse at 1 ≡ at2 → k + 1 ≡ k2 → GoesTo d h (point v m n from first best) (point v m n at2 next best) k2
  runs_on next at2 k2 u unit read plain is place count =
      subst (λ (j : ℕ). GoesTo d h (point v m n from first best) (point v m n at2 next best) j) count
      (subst (λ (p : ℕ). GoesTo d h (point v m n from first best) (point v m n p next best) (k + 1)) place
      (goes_on d h made bytes (point v m n from first best) (point v m n at id best)
      (point v m n (offset_of d.nfa.automaton.reverse at 1) next best) k 1 own own row so_far
      (goes_known d v id next u own unit here read plain h at m n best is)))

pub runs_none : (d : Dfa) (v : CacheValue) (h : List ℕ) (at id k : ℕ) → IsCacheOf d v → IsRow v id → k ≡ 0 →
    (m n : ℕ) (best : Option (ℕ × ℕ)) →
    GoesTo d h (point v m n at id best) (point v m n at id best) k
runs_none d v h at id k own row e m n best =
    subst (λ (j : ℕ). GoesTo d h (point v m n at id best) (point v m n at id best) j) (sym e)
    (goes_none d h (point v m n at id best) (row_known v id own.shape row))

-- the unit at an offset inside the haystack
pub forward_unit : (d : Dfa) (h : List ℕ) (at : ℕ) → d.nfa.automaton.reverse ≡ false → at < length h →
    Some (get_or h at 0) ≡ unit_of (reader d) h at 0
forward_unit d h at up l =
    sym (slice_get-get_or h at 0 l)
    ∙ (ap (unit_at false h) (sym (place_zero false at))
    ∙ ap (λ (r : Bool). unit_at r h (offset_of r at 0)) (sym up))

pub reverse_unit : (d : Dfa) (h : List ℕ) (at : ℕ) → d.nfa.automaton.reverse ≡ true → 0 < at → at ≤ length h →
    Some (get_or h (at - 1) 0) ≡ unit_of (reader d) h at 0
reverse_unit d h at is_reverse some l =
    sym (slice_get-get_or h (at - 1) 0 (omega (arith, some, l)))
    ∙ (ap (byte_before h) (back at some)
    ∙ (ap (unit_at true h) (sym (place_zero true at))
    ∙ ap (λ (r : Bool). unit_at r h (offset_of r at 0)) (sym is_reverse)))
  where
    back : (n : ℕ) → 0 < n → suc (n - 1) ≡ n
    back n l = omega (arith, l)

pub forward_place : (d : Dfa) (at : ℕ) → d.nfa.automaton.reverse ≡ false → offset_of d.nfa.automaton.reverse at 1 ≡ at + 1
forward_place d at up = ap (λ (r : Bool). offset_of r at 1) up

pub reverse_place : (d : Dfa) (at : ℕ) → d.nfa.automaton.reverse ≡ true → offset_of d.nfa.automaton.reverse at 1 ≡ at - 1
reverse_place d at is_reverse = ap (λ (r : Bool). offset_of r at 1) is_reverse
