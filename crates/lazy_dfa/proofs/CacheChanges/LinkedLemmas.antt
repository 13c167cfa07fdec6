-- What calls preserve of known paths. A cache that only grows preserves them. A cache in which only the progress changed is the same.
use Rattle.std.proofs.Common.{◌≡◌, ◌≢◌, ◌⊎◌, ℕ, zero, suc, ◌+◌, ◌-◌, ◌*◌, ◌%◌, ◌<◌, ◌≤◌, Bool, true, false, List, length, Option}
use Rattle.std.proofs.Common.{if◌then◌else◌, get_or, refl, sym, ap, ◌∙◌, subst, inl, inr, ⊎_elim, arith, true≢false}
use Rattle.std.specs.Prelude.{min}
use Rattle.std.proofs.lemmas.Bool.{cases_lt, cases_Bool}
use Rattle.std.proofs.lemmas.Option.{slice_get-get_or, slice_get_past}
use Rattle.std.proofs.Math.Nat.{min-le_right, min-eq_left, min-eq_right}
use Rattle.search_core.specs.Text.{byte_at}
use Rattle.nfa_core.specs.Ways.{offset_of}
use Rattle.determinize_core.specs.States.{StateValue}
use Rattle.determinize_core.specs.Starts.{start_of, number_of}
use Rattle.determinize_core.specs.Steps.{unit_at}
use Rattle.search_types.specs.declared.anchored.Anchored.{Anchored}
use Rattle.search_types.specs.Inputs.{Search}
use Rattle.lazy_dfa.specs.Caches.{CacheValue, IsShaped, IsCacheOf, IsRow, Names, names_dead, names_held, Leads, state_at, cell_at, greatest}
use Rattle.lazy_dfa.specs.declared.cache.progress.Progress.{Progress}
use Rattle.lazy_dfa.specs.Dfas.{Dfa, IsDfa, IsUnit, after, first_state, class_of, reader}
use Rattle.lazy_dfa.specs.Ids.{tag, unknown_id, is_sentinel}
use Rattle.lazy_dfa.specs.Linked.{led, id_after, IsLinkedOver, start_from, IsLinkedScan, AreLinked, CacheGrows, HasCleared, GrowsOrClears}
use Rattle.lazy_dfa.specs.Linked.{IsMoved}
use Rattle.lazy_dfa.specs.ScanLaws.{unit_of, scan_len_of}
use Rattle.lazy_dfa.specs.Readers.{is_quit}
use Rattle.lazy_dfa.specs.StartCalls.{mode_of, start_slot, start_noted}
use Rattle.lazy_dfa.specs.Steps.{IsHeld, Grew, WasCleared, KeepsOrClears, noted, IsKnown}
use Rattle.lazy_dfa.proofs.CacheChanges.ChangeLemmas.{row_kept}
use Rattle.lazy_dfa.proofs.CacheChanges.IsCacheLemmas.{row_of_held, cell_read}
use Rattle.lazy_dfa.proofs.CacheChanges.StartCallLemmas.{mode_fine, slot_inside}
use Rattle.lazy_dfa.proofs.HalfSearches.FoundLemmas.{place_add}

-- ---- what calls preserve

pub grows_refl : (d : Dfa) (v : CacheValue) → CacheGrows d v v
grows_refl d v = record { names = λ id s n. n; known = λ id u r unit n. refl; starts = λ i n. refl; clears = refl }

pub row_grows : (d : Dfa) (a b : CacheValue) → IsCacheOf d a → CacheGrows d a b → (id : ℕ) → IsRow a id → IsRow b id
row_grows d a b own g id r = row_kept a b own.shape g.names id r

pub grows_trans : (d : Dfa) (a b c : CacheValue) → IsDfa d → IsCacheOf d a → CacheGrows d a b → CacheGrows d b c → CacheGrows d a c
grows_trans d a b c made own g h = record {
  names = λ id s n. h.names id s (g.names id s n);
  known = λ id u r unit n. let e = g.known id u r unit n in h.known id u (row_grows d a b own g id r) unit (λ z. n (sym e ∙ z)) ∙ e;
  starts = λ i n. let e = g.starts i n in h.starts i (λ z. n (sym e ∙ z)) ∙ e;
  clears = h.clears ∙ g.clears;
}

pub grew_grows : (d : Dfa) (a b : CacheValue) → Grew d a b → CacheGrows d a b
grew_grows d a b g = record { names = g.names; known = g.known; starts = g.starts; clears = g.clears }

no_less : (x y : ℕ) → y ≡ x → x ≤ y
no_less x y e = omega (arith, e)

pub has_cleared : (a b : CacheValue) (most : ℕ) → WasCleared a b most → HasCleared a b
has_cleared a b most w = no_less (min (a.clears + 1) greatest) b.clears w.clears

-- what a step preserves, and what a start preserves
pub grows_of : (d : Dfa) (a b : CacheValue) → KeepsOrClears d a b → GrowsOrClears d a b
grows_of d a b kept = ⊎_elim (λ (g : Grew d a b). inl (grew_grows d a b g)) (λ (w : WasCleared a b 2). inr (has_cleared a b 2 w)) kept

pub start_grows_of : (d : Dfa) (a b : CacheValue) → Grew d a b ⊎ WasCleared a b 1 → GrowsOrClears d a b
start_grows_of d a b kept = ⊎_elim (λ (g : Grew d a b). inl (grew_grows d a b g)) (λ (w : WasCleared a b 1). inr (has_cleared a b 1 w)) kept

more_clears : (a b c g : ℕ) → min (a + 1) g ≤ b → min (b + 1) g ≤ c → min (a + 1) g ≤ c
more_clears a b c g h k = ⊎_elim
    (λ (l : b < g). let e : min (b + 1) g ≡ b + 1 = min-eq_left (omega (arith, l)) in omega (arith, e, h, k))
    (λ (l : g ≤ b). let e : min (b + 1) g ≡ g = min-eq_right (omega (arith, l)) in let f = min-le_right (a + 1) g in omega (arith, e, f, k))
    (cases_lt b g)

same_clears : (a n g : ℕ) → min (a + 1) g ≤ n → n ≡ a → a < g → ⊥
same_clears a n g h e l = let f : min (a + 1) g ≡ a + 1 = min-eq_left (omega (arith, l)) in omega (arith, h, e, f)

pub cleared_grows : (d : Dfa) (a b c : CacheValue) → HasCleared a b → GrowsOrClears d b c → HasCleared a c
cleared_grows d a b c x kept = ⊎_elim
    (λ (g : CacheGrows d b c). subst (λ (n : ℕ). min (a.clears + 1) greatest ≤ n) (sym g.clears) x)
    (λ (y : HasCleared b c). more_clears a.clears b.clears c.clears greatest x y)
    kept

pub grows_or_clears_trans : (d : Dfa) (a b c : CacheValue) → IsDfa d → IsCacheOf d a → GrowsOrClears d a b → GrowsOrClears d b c →
    GrowsOrClears d a c
grows_or_clears_trans d a b c made own before behind = ⊎_elim
    (λ (g : CacheGrows d a b). ⊎_elim
    (λ (h : CacheGrows d b c). inl (grows_trans d a b c made own g h))
    (λ (x : HasCleared b c). inr (subst (λ (n : ℕ). min (n + 1) greatest ≤ c.clears) g.clears x))
    behind)
    (λ (x : HasCleared a b). inr (cleared_grows d a b c x behind))
    before

-- below the greatest count, an unchanged count of clears shows that nothing was cleared
pub not_cleared : (old new : CacheValue) → HasCleared old new → new.clears ≡ old.clears → old.clears < greatest → ⊥
not_cleared old new x e l = same_clears old.clears new.clears greatest x e l

-- ---- caches in which only the progress changed

abbrev moved : CacheValue → ℕ → Option Progress → CacheValue
moved v n p = record v { searched = n; progress = p }

pub moved_refl : (v : CacheValue) → IsMoved v v
moved_refl v = refl

pub moved_trans : (a b c : CacheValue) → IsMoved a b → IsMoved b c → IsMoved a c
moved_trans a b c e f = f ∙ ap (λ (x : CacheValue). record x { searched = c.searched; progress = c.progress }) e

pub moved_same : (v w : CacheValue) → w ≡ v → IsMoved v w
moved_same v w e = subst (λ (x : CacheValue). IsMoved v x) (sym e) refl

module _ (v : CacheValue) (n : ℕ) (p : Option Progress) where
  names_further : (id : ℕ) (s : StateValue) → Names v id s → Names (moved v n p) id s
  names_further id s (names_dead e f) = names_dead e f
  names_further id s (names_held h) = names_held h

  leads_further : (d : Dfa) (s : StateValue) (u : Option ℕ) (id : ℕ) → Leads d v s u id → Leads d (moved v n p) s u id
  leads_further d s u id x = record { quits = x.quits; goes = λ e. names_further id (after d s u) (x.goes e) }

  shape_further : IsShaped v → IsShaped (moved v n p)
  shape_further i = record {
    positive = i.positive;
    narrow = i.narrow;
    sized = i.sized;
    small = i.small;
    named = i.named;
    tags = i.tags;
    real = i.real;
    apart = i.apart;
  }

  is_cache_further : (d : Dfa) → IsCacheOf d v → IsCacheOf d (moved v n p)
  is_cache_further d own = record {
    shape = shape_further own.shape;
    stride = own.stride;
    fresh = own.fresh;
    bound = own.bound;
    classes = own.classes;
    slots = own.slots;
    within = own.within;
    lives = own.lives;
    states = own.states;
    steps = λ k u l unit known. leads_further d (state_at v k) u (cell_at v k (class_of d.classes u)) (own.steps k u l unit known);
    starts = λ m s l known q e. names_further (get_or v.starts (m * 7 + number_of s) 0) (first_state d s q) (own.starts m s l known q e);
  }

module _ (d : Dfa) (v w : CacheValue) (e : IsMoved v w) where
  pub is_cache_moved : IsCacheOf d v → IsCacheOf d w
  is_cache_moved own = subst (IsCacheOf d) (sym e) (is_cache_further v w.searched w.progress d own)

  pub names_moved : (id : ℕ) (s : StateValue) → Names v id s → Names w id s
  names_moved id s n = subst (λ (x : CacheValue). Names x id s) (sym e) (names_further v w.searched w.progress id s n)

  pub moved_cells : w.cells ≡ v.cells
  moved_cells = ap (λ (x : CacheValue). x.cells) e

  pub moved_starts : w.starts ≡ v.starts
  moved_starts = ap (λ (x : CacheValue). x.starts) e

  pub noted_moved : (id : ℕ) (u : Option ℕ) → noted d w id u ≡ noted d v id u
  noted_moved id u = ap (λ (c : List ℕ). get_or c (id % tag + class_of d.classes u) 0) moved_cells

  pub grows_moved : CacheGrows d v w
  grows_moved = record {
    names = names_moved;
    known = λ id u r unit n. noted_moved id u;
    starts = λ i n. ap (λ (c : List ℕ). get_or c i 0) moved_starts;
    clears = ap (λ (x : CacheValue). x.clears) e;
  }

  module _ (h : List ℕ) (i id : ℕ) where
    pub id_moved : (k : ℕ) → id_after d w h i id k ≡ id_after d v h i id k
    id_moved zero = refl
    id_moved (suc k) =
        ap (λ (x : ℕ). led d w x (unit_of (reader d) h i k)) (id_moved k)
        ∙ ap (λ (n : ℕ). if is_sentinel (id_after d v h i id k) then id_after d v h i id k
        else n) (noted_moved (id_after d v h i id k) (unit_of (reader d) h i k))

    known_moved : (x y : ℕ) (u : Option ℕ) → y ≡ x → IsKnown d v x u → IsKnown d w y u
    known_moved x y u f known = subst (λ (n : ℕ). IsKnown d w n u) (sym f) (⊎_elim
        (λ (s : is_sentinel x ≡ true). inl s)
        (λ (n : noted d v x u ≢ unknown_id). inr (λ z. n (sym (noted_moved x u) ∙ z)))
        known)

    pub linked_moved : (n : ℕ) → IsLinkedOver d v h i id n → IsLinkedOver d w h i id n
    linked_moved n l = record {
      start = l.start;
      steps = λ k lt. known_moved (id_after d v h i id k) (id_after d w h i id k) (unit_of (reader d) h i k) (id_moved k) (l.steps k lt);
    }

  pub linked_pass_moved : (mode : Anchored) (earliest : Bool) (h : List ℕ) (n i : ℕ) → IsLinkedScan d v mode earliest h n i →
      IsLinkedScan d w mode earliest h n i
  linked_pass_moved mode earliest h n i linked q none named =
      let c = start_from (reader d) mode h i in
      let same : start_noted d w c ≡ start_noted d v c = ap (λ (s : List ℕ). get_or s (start_slot d c) 0) moved_starts in
      subst (λ (x : ℕ). IsLinkedOver d w h i x (scan_len_of (reader d) mode earliest h n i)) (sym same)
      (linked_moved h i (start_noted d v c) (scan_len_of (reader d) mode earliest h n i) (linked q none named))

-- ---- units

abbrev pub AreBytes : List ℕ → Type 0
AreBytes h = (i : ℕ) → get_or h i 0 < 256

byte_is : (h : List ℕ) → AreBytes h → (at : ℕ) → IsUnit (byte_at h at)
byte_is h bytes at = ⊎_elim
    (λ (l : at < length h). subst IsUnit (sym (slice_get-get_or h at 0 l)) (bytes at))
    (λ (g : length h ≤ at). subst IsUnit (sym (slice_get_past h at g)) tt)
    (cases_lt at (length h))

pub unit_is : (h : List ℕ) → AreBytes h → (is_reverse : Bool) (at : ℕ) → IsUnit (unit_at is_reverse h at)
unit_is h bytes false at = byte_is h bytes at
unit_is h bytes true zero = tt
unit_is h bytes true (suc at) = byte_is h bytes at

-- ---- known steps

module _ (d : Dfa) (v : CacheValue) (id : ℕ) (u : Option ℕ) where
  pub led_sentinel : is_sentinel id ≡ true → led d v id u ≡ id
  led_sentinel e = ap (λ (t : Bool). if t then id else noted d v id u) e

  pub led_row : is_sentinel id ≡ false → led d v id u ≡ noted d v id u
  led_row e = ap (λ (t : Bool). if t then id else noted d v id u) e

  pub known_row : is_sentinel id ≡ false → IsKnown d v id u → noted d v id u ≢ unknown_id
  known_row e (inl s) = absurd (true≢false (sym s ∙ e))
  known_row e (inr n) = n

  pub led_known : id ≢ unknown_id → IsKnown d v id u → led d v id u ≢ unknown_id
  led_known n known z = ⊎_elim
      (λ (s : is_sentinel id ≡ true). n (sym (led_sentinel s) ∙ z))
      (λ (s : is_sentinel id ≡ false). known_row s known (sym (led_row s) ∙ z))
      (cases_Bool (is_sentinel id))

pub held_named : (v : CacheValue) (id : ℕ) (s : StateValue) → Names v id s → IsHeld v id
held_named v id s (names_dead e f) = inl e
held_named v id s (names_held h) = inr (inr (h.0, h.1, h.2))

pub held_leads : (d : Dfa) (v : CacheValue) (s : StateValue) (u : Option ℕ) (id : ℕ) → Leads d v s u id → IsHeld v id
held_leads d v s u id x = ⊎_elim
    (λ (q : is_quit d.quits u ≡ true). inr (inl (x.quits q)))
    (λ (q : is_quit d.quits u ≡ false). held_named v id (after d s u) (x.goes q))
    (cases_Bool (is_quit d.quits u))

-- a known step from a row leads where the step from the state of the row leads
pub row_leads : (d : Dfa) (v : CacheValue) (id : ℕ) (u : Option ℕ) → IsCacheOf d v → IsUnit u → (r : IsRow v id) →
    noted d v id u ≢ unknown_id →
    Leads d v (state_at v r.0) u (noted d v id u)
row_leads d v id u own unit r n =
    let read : noted d v id u ≡ cell_at v r.0 (class_of d.classes u) =
    ap (λ (m : ℕ). get_or v.cells (m % tag + class_of d.classes u) 0) r.2 ∙ cell_read v own.shape r.0 r.1 (class_of d.classes u) in
    subst (λ (m : ℕ). Leads d v (state_at v r.0) u m) (sym read) (own.steps r.0 u r.1 unit (λ z. n (read ∙ z)))

pub held_led : (d : Dfa) (v : CacheValue) (id : ℕ) (u : Option ℕ) → IsCacheOf d v → IsUnit u → IsHeld v id → IsKnown d v id u →
    IsHeld v (led d v id u)
held_led d v id u own unit held known = ⊎_elim
    (λ (s : is_sentinel id ≡ true). subst (IsHeld v) (sym (led_sentinel d v id u s)) held)
    (λ (s : is_sentinel id ≡ false).
    let r = row_of_held v id held s in
    subst (IsHeld v) (sym (led_row d v id u s)) (held_leads d v (state_at v r.0) u (noted d v id u)
    (row_leads d v id u own unit r (known_row d v id u s known))))
    (cases_Bool (is_sentinel id))

-- ---- known paths in a cache that grows

module _ (d : Dfa) (b c : CacheValue) (own : IsCacheOf d b) (grows : CacheGrows d b c) where
  noted_grows : (id : ℕ) (u : Option ℕ) → IsUnit u → IsHeld b id → IsKnown d b id u → is_sentinel id ≡ false →
      noted d c id u ≡ noted d b id u
  noted_grows id u unit held known s = grows.known id u (row_of_held b id held s) unit (known_row d b id u s known)

  led_grows : (id : ℕ) (u : Option ℕ) → IsUnit u → IsHeld b id → IsKnown d b id u → led d c id u ≡ led d b id u
  led_grows id u unit held known = ⊎_elim
      (λ (s : is_sentinel id ≡ true). led_sentinel d c id u s ∙ sym (led_sentinel d b id u s))
      (λ (s : is_sentinel id ≡ false). led_row d c id u s ∙ (noted_grows id u unit held known s ∙ sym (led_row d b id u s)))
      (cases_Bool (is_sentinel id))

  known_grows : (id : ℕ) (u : Option ℕ) → IsUnit u → IsHeld b id → IsKnown d b id u → IsKnown d c id u
  known_grows id u unit held known = ⊎_elim
      (λ (s : is_sentinel id ≡ true). inl s)
      (λ (s : is_sentinel id ≡ false). inr (λ z. known_row d b id u s known (sym (noted_grows id u unit held known s) ∙ z)))
      (cases_Bool (is_sentinel id))

  module _ (h : List ℕ) (bytes : AreBytes h) (i : ℕ) where
    unit_is_one : (k : ℕ) → IsUnit (unit_of (reader d) h i k)
    unit_is_one k = unit_is h bytes d.nfa.automaton.reverse (offset_of d.nfa.automaton.reverse i k)

    -- each ID on a known path is held
    pub held_on : (id n : ℕ) → IsHeld b id → IsLinkedOver d b h i id n → (k : ℕ) → k ≤ n → IsHeld b (id_after d b h i id k)
    held_on id n held l zero le = held
    held_on id n held l (suc k) le =
        held_led d b (id_after d b h i id k) (unit_of (reader d) h i k) own (unit_is_one k) (held_on id n held l k (omega (arith, le)))
        (l.steps k (omega (arith, le)))

    pub id_grows : (id n : ℕ) → IsHeld b id → IsLinkedOver d b h i id n → (k : ℕ) → k ≤ n → id_after d c h i id k ≡ id_after d b h i id k
    id_grows id n held l zero le = refl
    id_grows id n held l (suc k) le =
        ap (λ (x : ℕ). led d c x (unit_of (reader d) h i k)) (id_grows id n held l k (omega (arith, le)))
        ∙ led_grows (id_after d b h i id k) (unit_of (reader d) h i k) (unit_is_one k) (held_on id n held l k (omega (arith, le)))
        (l.steps k (omega (arith, le)))

    pub linked_grows : (id n : ℕ) → IsHeld b id → IsLinkedOver d b h i id n → IsLinkedOver d c h i id n
    linked_grows id n held l = record {
      start = l.start;
      steps = λ k lt. subst (λ (x : ℕ). IsKnown d c x (unit_of (reader d) h i k)) (sym (id_grows id n held l k (omega (arith, lt))))
          (known_grows (id_after d b h i id k) (unit_of (reader d) h i k) (unit_is_one k) (held_on id n held l k (omega (arith, lt)))
          (l.steps k lt));
    }

  pub linked_pass_grows : (mode : Anchored) (earliest : Bool) (h : List ℕ) (n i : ℕ) → IsDfa d → AreBytes h →
      IsLinkedScan d b mode earliest h n i → IsLinkedScan d c mode earliest h n i
  linked_pass_grows mode earliest h n i made bytes linked q none named =
      let s = start_from (reader d) mode h i in
      let t = start_of d.nfa.terminator s.look_behind in
      let l = linked q none named in
      let inside = slot_inside d b mode t q (mode_of mode) made own (mode_fine d s none) refl named in
      let held = held_named b (start_noted d b s) (first_state d t q) (own.starts (mode_of mode) t inside l.start q named) in
      subst (λ (x : ℕ). IsLinkedOver d c h i x (scan_len_of (reader d) mode earliest h n i)) (sym (grows.starts (start_slot d s) l.start))
      (linked_grows h bytes i (start_noted d b s) (scan_len_of (reader d) mode earliest h n i) held l)

  pub are_linked_grows : (q : Search) (ps : List (ℕ × ℕ)) → IsDfa d → AreBytes q.haystack → AreLinked d b q ps → AreLinked d c q ps
  are_linked_grows q ps made bytes all k p l = linked_pass_grows q.anchored q.earliest q.haystack (get_or ps k p).0
      (get_or ps k p).1 made bytes (all k p l)

-- ---- parts of paths

module _ (d : Dfa) (v : CacheValue) (h : List ℕ) (i id : ℕ) where
  pub linked_none : id ≢ unknown_id → IsLinkedOver d v h i id 0
  linked_none n = record { start = n; steps = λ k lt. absurd (omega (arith, lt)) }

  pub linked_less : (n m : ℕ) → IsLinkedOver d v h i id n → m ≤ n → IsLinkedOver d v h i id m
  linked_less n m l le = record { start = l.start; steps = λ k lt. l.steps k (omega (arith, lt, le)) }

  -- no ID on a known path is the unknown one
  pub id_is_known : (n : ℕ) → IsLinkedOver d v h i id n → (k : ℕ) → k ≤ n → id_after d v h i id k ≢ unknown_id
  id_is_known n l zero le = l.start
  id_is_known n l (suc k) le = led_known d v (id_after d v h i id k) (unit_of (reader d) h i k) (id_is_known n l k (omega (arith, le)))
      (l.steps k (omega (arith, le)))

  module _ (k : ℕ) where
    abbrev there : ℕ
    there = offset_of d.nfa.automaton.reverse i k

    abbrev id_there : ℕ
    id_there = id_after d v h i id k

    pub unit_split : (j : ℕ) → unit_of (reader d) h i (k + j) ≡ unit_of (reader d) h there j
    unit_split j = ap (unit_at d.nfa.automaton.reverse h) (sym (place_add d.nfa.automaton.reverse i k j))

    pub id_split : (j : ℕ) → id_after d v h i id (k + j) ≡ id_after d v h there id_there j
    id_split zero = let e : k + 0 ≡ k = omega arith in ap (id_after d v h i id) e
    id_split (suc j) =
        let e : k + suc j ≡ suc (k + j) = omega arith in
        ap (id_after d v h i id) e
        ∙ (ap (λ (x : ℕ). led d v x (unit_of (reader d) h i (k + j))) (id_split j)
        ∙ ap (λ (u : Option ℕ). led d v (id_after d v h there id_there j) u) (unit_split j))

    pub linked_split : (l : ℕ) → IsLinkedOver d v h i id (k + l) → IsLinkedOver d v h there id_there l
    linked_split l linked = record {
      start = id_is_known (k + l) linked k (omega arith);
      steps = λ j lt. subst (λ (x : ℕ). IsKnown d v x (unit_of (reader d) h there j)) (id_split j)
          (subst (λ (u : Option ℕ). IsKnown d v (id_after d v h i id (k + j)) u) (unit_split j)
          (linked.steps (k + j) (omega (arith, lt))));
    }

    step_there : (j m : ℕ) → m ≡ k + j → IsKnown d v (id_after d v h there id_there j) (unit_of (reader d) h there j) →
        IsKnown d v (id_after d v h i id m) (unit_of (reader d) h i m)
    step_there j m e known = subst (λ (n : ℕ). IsKnown d v (id_after d v h i id n) (unit_of (reader d) h i n)) (sym e)
        (subst (λ (x : ℕ). IsKnown d v x (unit_of (reader d) h i (k + j))) (sym (id_split j))
        (subst (λ (u : Option ℕ). IsKnown d v (id_after d v h there id_there j) u) (sym (unit_split j)) known))

    pub linked_join : (l : ℕ) → IsLinkedOver d v h i id k → IsLinkedOver d v h there id_there l → IsLinkedOver d v h i id (k + l)
    linked_join l before behind = record {
      start = before.start;
      steps = λ m lt. ⊎_elim
          (λ (f : m < k). before.steps m f)
          (λ (f : k ≤ m). step_there (m - k) m (omega (arith, f)) (behind.steps (m - k) (omega (arith, f, lt))))
          (cases_lt m k);
    }
