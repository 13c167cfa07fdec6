-- What calls change in a cache: nothing, one more state, one more step, or all but two states.
use Rattle.std.proofs.Common.{◌≡◌, ◌≢◌, ℕ, ◌+◌, ◌%◌, ◌/◌, ◌-◌, ◌<◌, ◌≤◌, Bool, true, false, ◌⊎◌, List, ◌∷◌, ◌*◌, length, get_or, set, []}
use Rattle.std.proofs.Common.{replicate, refl, sym, ap, ◌∙◌, subst, inl, inr, ⊎_elim, arith, true≢false, Option, Some}
use Rattle.std.proofs.Common.{get_or-set_same, get_or-set_other}
use Rattle.std.proofs.lemmas.Bool.{cases_lt, cases_eq, cases_Bool}
use Rattle.std.proofs.lemmas.Bool.Decides.{leb_tells}
use Rattle.std.specs.Prelude.{nat_le}
use Rattle.std.proofs.Math.Nat.{mod-eq_of_lt}
use Rattle.std.proofs.lemmas.Slice.Eq.{bytes_eq-Decides}
use lib.ListN.{get_or-append}
use Rattle.determinize_core.specs.StateBytes.{encoded, is_match}
use Rattle.determinize_core.specs.States.{StateValue}
use Rattle.lazy_dfa.specs.Readers.{is_quit}
use Rattle.lazy_dfa.specs.Dfas.{Dfa, IsDfa, IsUnit, after, class_of}
use Rattle.lazy_dfa.specs.Ids.{tag, unknown_id, is_sentinel, tagged, has_tag, start_tag}
use Rattle.lazy_dfa.specs.Caches.{CacheValue, IsShaped, IsCacheOf, Leads, Names, names_dead, names_held, HeldAt, IsRow, same}
use Rattle.lazy_dfa.specs.Caches.{state_at, id_at, cell_at, with_state, cleared, needs_clear, has_no_room}
use Rattle.lazy_dfa.specs.Steps.{Added, Grew, WasCleared, ClearedFrom, kept_alone, MadeRoom, AddsOrClears, KeepsOrClears}
use Rattle.lazy_dfa.specs.Steps.{noted, IsNoted, GivesUp, StepNeedsClear, IsCause, IsStepCause}
use Rattle.lazy_dfa.specs.declared.cache_error.CacheError.{CacheError}
use Rattle.lazy_dfa.specs.declared.cache_error.CacheError.TheVariants.{GaveUp, NoMemory}
use Rattle.lazy_dfa.proofs.CacheChanges.ListLemmas.{one_longer}
use Rattle.lazy_dfa.proofs.CacheChanges.CacheLemmas.{IsShaped-cleared}
use Rattle.lazy_dfa.proofs.CacheChanges.IsCacheLemmas.{names_added, names_cells, place_inside, untagged, row_place, row_is_plain, same_row}
use Rattle.lazy_dfa.proofs.CacheChanges.IsCacheLemmas.{row_quotient, le_of, lt_of}

-- ---- one more state

pub added_refl : (v : CacheValue) → IsShaped v → Added v v
added_refl v i = record {
  shape = i;
  stride = refl;
  names = λ id s n. n;
  cells = λ id c r l. refl;
  starts = λ j n. refl;
  clears = refl;
  searched = refl;
  progress = refl;
}

pub added_state : (v : CacheValue) (b : Bool) (s : StateValue) → IsShaped v → Added v (with_state b s v)
added_state v b s i = record {
  shape = i;
  stride = refl;
  names = λ id t n. names_added v b s id t i n;
  cells = λ id c r l.
      let inside : id % tag + c < length v.cells = subst (λ (n : ℕ). n % tag + c < length v.cells) (sym r.2)
      (place_inside v i r.0 r.1 c l) in
      get_or-append v.cells (replicate v.stride unknown_id) 0 (id % tag + c) inside;
  starts = λ j n. refl;
  clears = refl;
  searched = refl;
  progress = refl;
}

pub cleared_few : (v w : CacheValue) → w ≡ cleared v → WasCleared v w 1
cleared_few v w e = subst (λ (x : CacheValue). WasCleared v x 1) (sym e) (record {
  clears = refl;
  searched = refl;
  progress = refl;
  few = omega arith;
})

-- adds one state after room was made for it
pub adds_after : (v mid new : CacheValue) (b : Bool) (s : StateValue) → IsShaped v → MadeRoom v mid → new ≡ with_state b s mid →
    AddsOrClears v new
adds_after v mid new b s i room e = ⊎_elim
    (λ (f : mid ≡ v). inl (subst (Added v) (sym (e ∙ ap (with_state b s) f)) (added_state v b s i)))
    (λ (f : WasCleared v mid 1).
    let long = one_longer mid.states s in
    inr (subst (λ (x : CacheValue). WasCleared v x 2) (sym e) (record {
      clears = f.clears;
      searched = f.searched;
      progress = f.progress;
      few = omega (arith, long, f.few);
    })))
    room

pub adds_nothing : (v mid new : CacheValue) → IsShaped v → MadeRoom v mid → new ≡ mid → AddsOrClears v new
adds_nothing v mid new i room e = ⊎_elim
    (λ (f : mid ≡ v). inl (subst (Added v) (sym (e ∙ f)) (added_refl v i)))
    (λ (f : WasCleared v mid 1). inr (subst (λ (x : CacheValue). WasCleared v x 2) (sym e) (record {
      clears = f.clears;
      searched = f.searched;
      progress = f.progress;
      few = omega (arith, f.few);
    })))
    room

-- keeps the state of a row, and adds another one
pub made_after : (v mid new : CacheValue) (k : ℕ) (s : StateValue) → IsShaped v → (mid ≡ v) ⊎ (mid ≡ kept_alone v k) →
    new ≡ with_state false s mid →
    Added v new ⊎ (new ≡ with_state false s (kept_alone v k))
made_after v mid new k s i made e = ⊎_elim
    (λ (f : mid ≡ v). inl (subst (Added v) (sym (e ∙ ap (with_state false s) f)) (added_state v false s i)))
    (λ (f : mid ≡ kept_alone v k). inr (e ∙ ap (with_state false s) f))
    made

-- an unchanged cache, and a cache with one more state
pub added_none : (v new : CacheValue) → IsShaped v → new ≡ v → Added v new
added_none v new i e = subst (Added v) (sym e) (added_refl v i)

pub added_one : (v mid new : CacheValue) (b : Bool) (s : StateValue) → IsShaped v → mid ≡ v → new ≡ with_state b s mid → Added v new
added_one v mid new b s i f e = subst (Added v) (sym (e ∙ ap (with_state b s) f)) (added_state v b s i)

-- an ID of a row stays one if it still names what it named
pub row_kept : (v w : CacheValue) → IsShaped v → ((id : ℕ) (s : StateValue) → Names v id s → Names w id s) → (id : ℕ) → IsRow v id →
    IsRow w id
row_kept v w i names id r = row_of (state_at v r.0) (names id (state_at v r.0) (names_held (r.0, r.1, r.2, refl)))
  where
    low : id < 0x2000_0000
    low = row_is_plain v id r.0 i r.1 r.2

    row_of : (s : StateValue) → Names w id s → IsRow w id
    row_of s (names_dead e f) = absurd (omega (arith, e, low))
    row_of s (names_held h) = (h.0, h.1, h.2)

-- ---- known steps

module _ (d : Dfa) (v : CacheValue) (made : IsDfa d) (own : IsCacheOf d v) (u : Option ℕ) (unit : IsUnit u) where
  pub column : class_of d.classes u < v.stride
  column = rw own.stride (made.classed u unit)

  lead_low : (s : StateValue) (id : ℕ) → Leads d v s u id → id < unknown_id
  lead_low s id x = ⊎_elim
      (λ (q : is_quit d.quits u ≡ true). let e = x.quits q in omega (arith, e, own.shape.narrow))
      (λ (q : is_quit d.quits u ≡ false). named_low id (after d s u) (x.goes q))
      (cases_Bool (is_quit d.quits u))
    where
      named_low : (id : ℕ) (t : StateValue) → Names v id t → id < unknown_id
      named_low id t (names_dead e f) = omega (arith, e, own.shape.narrow)
      named_low id t (names_held h) = let l = row_is_plain v id h.0 own.shape h.1 h.2 in omega (arith, l)

  -- if a step is known, its ID is below the unknown ID
  pub known_low : (id : ℕ) → IsRow v id → noted d v id u ≢ unknown_id → noted d v id u < unknown_id
  known_low id x n =
      let read : noted d v id u ≡ cell_at v x.0 (class_of d.classes u) =
      ap (λ (m : ℕ). get_or v.cells (m % tag + class_of d.classes u) 0) x.2
      ∙ ap (λ (m : ℕ). get_or v.cells (m + class_of d.classes u) 0) (untagged v own.shape x.0 x.1) in
      let led = own.steps x.0 u x.1 unit (λ z. n (read ∙ z)) in
      subst (λ (m : ℕ). m < unknown_id) (sym read) (lead_low (state_at v x.0) (cell_at v x.0 (class_of d.classes u)) led)

  -- so if its ID isn't below the unknown ID, the step isn't known
  pub unknown_of : (id cell : ℕ) → IsRow v id → cell ≡ noted d v id u → nat_le unknown_id cell ≡ true → noted d v id u ≡ unknown_id
  unknown_of id cell x e t = ⊎_elim
      (λ (f : noted d v id u ≡ unknown_id). f)
      (λ (n : noted d v id u ≢ unknown_id).
      let low = known_low id x n in
      ⊎_elim (λ p. let g = p.1 in absurd (omega (arith, low, e, g))) (λ q. absurd (true≢false (sym t ∙ q.0))) (leb_tells unknown_id cell))
      (cases_eq (noted d v id u) unknown_id)

-- one ID names one state, and a state has one ID
pub one_id : (v : CacheValue) (i j : ℕ) (s : StateValue) → IsShaped v → HeldAt v i s → HeldAt v j s → i ≡ j
one_id v i j s shape g h = g.2 ∙ (ap (id_at v) (same_at g.0 h.0 g.1 h.1 (sym g.3 ∙ h.3)) ∙ sym h.2)
  where
    itself : (x : StateValue) → same x x ≡ true
    itself x = (bytes_eq-Decides (encoded x) (encoded x)).1 refl

    clash : (j k : ℕ) → j < k → k < length v.states → state_at v j ≡ state_at v k → ⊥
    clash j k l m e = true≢false (sym (itself (state_at v k)) ∙ (ap (same (state_at v k)) (sym e) ∙ shape.apart j k l m))

    same_at : (j k : ℕ) → j < length v.states → k < length v.states → state_at v j ≡ state_at v k → j ≡ k
    same_at j k l m e = ⊎_elim
        (λ (f : j ≡ k). f)
        (λ (n : j ≢ k). ⊎_elim (λ (f : j < k). absurd (clash j k f m e)) (λ (f : k ≤ j). absurd (clash k j (omega (arith, f, n)) l (sym e)))
        (cases_lt j k))
        (cases_eq j k)

-- an ID below 0x2000_0000 that names a state is the ID of a row
held_of : (d : Dfa) (v : CacheValue) (id : ℕ) (s : StateValue) → IsShaped v → id < 0x2000_0000 → Names v id s → HeldAt v id s
held_of d v id s i low (names_dead e f) = absurd (omega (arith, e, low))
held_of d v id s i low (names_held h) = h

-- ---- one more step

module _ (d : Dfa) (v mid new : CacheValue) (id from c k to : ℕ) (u : Option ℕ) (made : IsDfa d) (own : IsCacheOf d v)
    (mine : IsCacheOf d mid)
    (unit : IsUnit u) (class : c ≡ class_of d.classes u) (inside : k < length v.states) (row : id ≡ id_at v k)
    (from_held : HeldAt mid from (state_at v k)) (e : new ≡ record mid { cells = set mid.cells (from % tag + c) to }) where
  abbrev cells : List ℕ
  cells = set mid.cells (from % tag + c) to

  fits_row : from % tag + c < length mid.cells
  fits_row = row_place d mid from c u made mine unit class (from_held.0, from_held.1, from_held.2)

  same_name : Added v mid → id ≡ from
  same_name a =
      let low = row_is_plain v id k own.shape inside row in
      one_id mid id from (state_at v k) mine.shape (held_of d mid id (state_at v k) mine.shape low
      (a.names id (state_at v k) (names_held (k, inside, row, refl)))) from_held

  known_on : Added v mid → noted d v id u ≡ unknown_id → (i : ℕ) (w : Option ℕ) → IsRow v i → IsUnit w → noted d v i w ≢ unknown_id →
      get_or cells (i % tag + class_of d.classes w) 0 ≡ noted d v i w
  known_on a unknown i w r unitw n = ⊎_elim
      (λ (f : i % tag + class_of d.classes w ≡ from % tag + c).
      let here : noted d v i w ≡ get_or mid.cells (i % tag + class_of d.classes w) 0 =
      sym (a.cells i (class_of d.classes w) r (column d v made own w unitw)) in
      let there : get_or mid.cells (from % tag + c) 0 ≡ get_or v.cells (id % tag + c) 0 =
      ap (λ (m : ℕ). get_or mid.cells (m % tag + c) 0) (sym (same_name a))
      ∙ a.cells id c (k, inside, row) (rw class (column d v made own u unit)) in
      absurd (n (here ∙ (ap (λ (m : ℕ). get_or mid.cells m 0) f ∙ (there
      ∙ (ap (λ (m : ℕ). get_or v.cells (id % tag + m) 0) class ∙ unknown))))))
      (λ (n : i % tag + class_of d.classes w ≢ from % tag + c).
      get_or-set_other mid.cells (from % tag + c) (i % tag + class_of d.classes w) to 0 n
      ∙ a.cells i (class_of d.classes w) r (column d v made own w unitw))
      (cases_eq (i % tag + class_of d.classes w) (from % tag + c))

  pub grew_cell : noted d v id u ≡ unknown_id → Added v mid → Grew d v new
  grew_cell unknown a = subst (Grew d v) (sym e) (record {
    names = λ i s n. names_cells mid cells i s (a.names i s n);
    rows = λ i r. row_kept v (record mid { cells = cells }) own.shape (λ i s n. names_cells mid cells i s (a.names i s n)) i r;
    known = λ i w r unitw n. known_on a unknown i w r unitw n;
    starts = a.starts;
    clears = a.clears;
    searched = a.searched;
    progress = a.progress;
  })

  pub grew_set : noted d v id u ≡ unknown_id → AddsOrClears v mid → KeepsOrClears d v new
  grew_set unknown changes = ⊎_elim
      (λ (a : Added v mid). inl (grew_cell unknown a))
      (λ (x : WasCleared v mid 2). inr (subst (λ (w : CacheValue). WasCleared v w 2) (sym e) (record {
        clears = x.clears;
        searched = x.searched;
        progress = x.progress;
        few = x.few;
      })))
      changes

  -- after a clear, the state stepped from and the state stepped to are left
  pub remains_set : (s : StateValue) → noted d v id u ≡ unknown_id → s ≡ after d (state_at v k) u → Added v mid ⊎
      (mid ≡ with_state false s (kept_alone v k)) →
      Grew d v new ⊎ ClearedFrom d v new id u
  remains_set s unknown value changes = ⊎_elim
      (λ (a : Added v mid). inl (grew_cell unknown a))
      (λ (f : mid ≡ with_state false s (kept_alone v k)). inr (left f))
      changes
    where
      at_first : length (cleared v).cells ≡ 3 * v.stride
      at_first = (IsShaped-cleared v (cleared v).clears own.shape).sized

      one : (t : StateValue) → HeldAt v id t → state_at v k ≡ t
      one t h = ap (state_at v) (same_row v k h.0 own.shape inside h.1 (sym row ∙ h.2)) ∙ sym h.3

      there : ClearedFrom d v (record (with_state false s (kept_alone v k)) {
        cells =
            set (with_state false s (kept_alone v k)).cells (from % tag + c) to;
      }) id u
      there = record {
        cleared = record { clears = refl; searched = refl; progress = refl; few = omega arith };
        from = λ t h.
            ap (λ (n : ℕ). tagged (has_tag start_tag (id_at v k)) (is_match (state_at v k).matches) n) at_first
            ∙ (ap (λ (x : StateValue). tagged (has_tag start_tag (id_at v k)) (is_match x.matches) (3 * v.stride)) (one t h)
            ∙ ap (λ (n : ℕ). tagged (has_tag start_tag n) (is_match t.matches) (3 * v.stride)) (sym row));
        states = λ t h.
            ap (λ (x : StateValue). state_at v k ∷ x ∷ []) value ∙ ap (λ (x : StateValue). x ∷ after d x u ∷ []) (one t h);
        starts = refl;
      }

      left : mid ≡ with_state false s (kept_alone v k) → ClearedFrom d v new id u
      left f = subst (λ (w : CacheValue). ClearedFrom d v w id u) (sym (e
          ∙ ap (λ (m : CacheValue). record m { cells = set m.cells (from % tag + c) to }) f)) there

  pub set_is_noted : IsNoted d v new id u to
  set_is_noted = subst (λ (w : CacheValue). IsNoted d v w id u to) (sym e) there
    where
      there : IsNoted d v (record mid { cells = cells }) id u to
      there s h g =
          let same : s ≡ state_at v k = h.3 ∙ ap (state_at v) (same_row v h.0 k own.shape h.1 inside (sym h.2 ∙ row)) in
          let name : id ≡ from = one_id mid id from (state_at v k) mine.shape (g.0, g.1, g.2, sym same ∙ g.3) from_held in
          ap (λ (m : ℕ). get_or cells (m % tag + class_of d.classes u) 0) name
          ∙ (ap (λ (m : ℕ). get_or cells (from % tag + m) 0) (sym class) ∙ get_or-set_same mid.cells (from % tag + c) to 0 fits_row)

pub same_grew : (d : Dfa) (v : CacheValue) → Grew d v v
same_grew d v = record {
  names = λ id s n. n;
  rows = λ id r. r;
  known = λ id u r unit n. refl;
  starts = λ i n. refl;
  clears = refl;
  searched = refl;
  progress = refl;
}

pub grew_refl : (d : Dfa) (v : CacheValue) → KeepsOrClears d v v
grew_refl d v = inl (same_grew d v)

-- a cache in which no step was stored
pub grew_added : (d : Dfa) (v mid : CacheValue) → IsDfa d → IsCacheOf d v → Added v mid → Grew d v mid
grew_added d v mid made own a = record {
  names = a.names;
  rows = row_kept v mid a.shape a.names;
  known = λ i w r unitw n. a.cells i (class_of d.classes w) r (column d v made own w unitw);
  starts = a.starts;
  clears = a.clears;
  searched = a.searched;
  progress = a.progress;
}

pub grew_of : (d : Dfa) (v mid : CacheValue) → IsDfa d → IsCacheOf d v → AddsOrClears v mid → KeepsOrClears d v mid
grew_of d v mid made own changes = ⊎_elim
    (λ (a : Added v mid). inl (grew_added d v mid made own a))
    (λ (x : WasCleared v mid 2). inr x)
    changes

-- ---- failures

-- why a step failed, and that a step that was made has no such cause
module _ (d : Dfa) (v mid : CacheValue) (id k : ℕ) (u : Option ℕ) (s : StateValue) (shape : IsShaped v) (same_cache : mid ≡ v)
    (inside : k < length v.states) (row : id ≡ id_at v k) (value : s ≡ after d (state_at v k) u) where
  pub step_cause : (e : CacheError) → noted d v id u ≡ unknown_id → is_quit d.quits u ≡ false → IsCause d mid s e → IsStepCause d v id u e
  step_cause e unknown no_quit cause = ⊎_elim
      (λ (m : e ≡ NoMemory). inl m)
      (λ (g : (e ≡ GaveUp) × (has_no_room d mid s ≡ true)). inr (
        g.0,
        record {
          row = (k, inside, row);
          unknown = unknown;
          no_quit = no_quit;
          lacks = λ t h.
              let one : state_at v k ≡ t = ap (state_at v) (same_row v k h.0 shape inside h.1 (sym row ∙ h.2)) ∙ sym h.3 in
              ap (λ (x : StateValue). has_no_room d v (after d x u)) (sym one)
              ∙ (ap (has_no_room d v) (sym value) ∙ (ap (λ (w : CacheValue). has_no_room d w s) (sym same_cache) ∙ g.1));
        },
      ))
      cause

  -- if the state needs a clear, so does the step
  pub step_needs : noted d v id u ≡ unknown_id → is_quit d.quits u ≡ false → needs_clear d mid s ≡ true → StepNeedsClear d v id u
  step_needs unknown no_quit needs = record {
    row = (k, inside, row);
    unknown = unknown;
    no_quit = no_quit;
    needs = λ t h.
        let one : state_at v k ≡ t = ap (state_at v) (same_row v k h.0 shape inside h.1 (sym row ∙ h.2)) ∙ sym h.3 in
        ap (λ (x : StateValue). needs_clear d v (after d x u)) (sym one)
        ∙ (ap (needs_clear d v) (sym value) ∙ (ap (λ (w : CacheValue). needs_clear d w s) (sym same_cache) ∙ needs));
  }

  pub no_cause : has_no_room d mid s ≡ false → GivesUp d v id u → ⊥
  no_cause none g = true≢false (sym (g.lacks (state_at v k) (k, inside, row, refl))
      ∙ (ap (has_no_room d v) (sym value) ∙ (ap (λ (w : CacheValue). has_no_room d w s) (sym same_cache) ∙ none)))

-- ---- what is known about a step

-- a sentinel is no ID of a row
pub no_row : (v : CacheValue) (id : ℕ) → IsShaped v → is_sentinel id ≡ true → IsRow v id → ⊥
no_row v id i e x = let l = row_is_plain v id x.0 i x.1 x.2 in let g = le_of 0x2000_0000 id e in omega (arith, l, g)

module _ (d : Dfa) (v : CacheValue) (id c cell : ℕ) (u : Option ℕ) (made : IsDfa d) (own : IsCacheOf d v) (unit : IsUnit u)
    (class : c ≡ class_of d.classes u)
    (read : cell ≡ get_or v.cells (id % tag + c) 0) where
  pub noted_read : cell ≡ noted d v id u
  noted_read = read ∙ ap (λ (m : ℕ). get_or v.cells (id % tag + m) 0) class

  pub unknown_here : IsRow v id → nat_le unknown_id cell ≡ true → noted d v id u ≡ unknown_id
  unknown_here x e = unknown_of d v made own u unit id cell x noted_read e

  pub known_cell : nat_le unknown_id cell ≡ false → noted d v id u ≢ unknown_id
  known_cell e f = let l = lt_of unknown_id cell e in let g = noted_read in omega (arith, l, f, g)

-- what is read at an untagged ID
pub plain_place : (d : Dfa) (v : CacheValue) (id c b : ℕ) → IsDfa d → IsCacheOf d v → b < 256 → c ≡ class_of d.classes (Some b) → id < tag →
    IsRow v id → id + c < length v.cells
plain_place d v id c b made own small class low x =
    subst (λ (n : ℕ). n + c < length v.cells) (mod-eq_of_lt low) (row_place d v id c (Some b) made own small class x)

pub plain_noted : (d : Dfa) (v : CacheValue) (id c b cell : ℕ) → c ≡ class_of d.classes (Some b) → id < tag →
    cell ≡ get_or v.cells (id + c) 0 → cell ≡ noted d v id (Some b)
plain_noted d v id c b cell class low read =
    read ∙ (ap (λ (n : ℕ). get_or v.cells (n + c) 0) (sym (mod-eq_of_lt low)) ∙ ap (λ (n : ℕ). get_or v.cells (id % tag + n) 0) class)

-- the state of an ID is that of its row
pub one_state : (v : CacheValue) (id k : ℕ) (s : StateValue) → IsShaped v → k < length v.states → id ≡ id_at v k → HeldAt v id s →
    state_at v k ≡ s
one_state v id k s i l e h = ap (state_at v) (same_row v k h.0 i l h.1 (sym e ∙ h.2)) ∙ sym h.3

-- a row that is looked up by the offset in an ID
module _ (v : CacheValue) (id n m : ℕ) (i : IsShaped v) (e : n ≡ id) (f : m ≡ v.stride) where
  pub no_low_row : (n % tag) / m < 3 → IsRow v id → ⊥
  no_low_row l x = let q = row_quotient v id n m x i e f in omega (arith, l, q)

  pub no_high_row : (k : ℕ) → k ≡ (n % tag) / m - 3 → length v.states ≤ k → IsRow v id → ⊥
  no_high_row k g l x = let q = row_quotient v id n m x i e f in let h = x.1 in omega (arith, l, q, g, h)

  pub only_row : (k : ℕ) → k ≡ (n % tag) / m - 3 → (x : IsRow v id) → id_at v k ≡ id
  only_row k g x = let q = row_quotient v id n m x i e f in let same : k ≡ x.0 = omega (arith, q, g) in ap (id_at v) same ∙ sym x.2
