-- What start calls change in a cache, and which tag a start gets.
use Rattle.std.proofs.Common.{◌≡◌, ◌≢◌, ℕ, ◌*◌, ◌+◌, ◌%◌, ◌/◌, ◌<◌, ◌≤◌, Bool, true, false, ◌⊎◌, length, get_or, set, refl, sym, ap, ◌∙◌}
use Rattle.std.proofs.Common.{subst, inl}
use Rattle.std.proofs.Common.{inr, ⊎_elim, arith, true≢false, Option, Some, None, get_or-set_other}
use Rattle.std.proofs.lemmas.Bool.{cases_eq}
use Rattle.std.proofs.lemmas.Bool.Decides.{Decides-eqb}
use Rattle.std.proofs.lemmas.Slice.Eq.{bytes_eq-Decides}
use Rattle.std.specs.Prelude.{nat_le, ◌==◌, Result, Ok, Err, OnErr}
use Rattle.determinize_core.specs.StateBytes.{encoded, is_match}
use Rattle.determinize_core.specs.States.{StateValue}
use Rattle.determinize_core.specs.declared.start.Start.{Start}
use Rattle.lazy_dfa.specs.ConfigValue.{specializes}
use Rattle.lazy_dfa.specs.Readers.{is_quit}
use Rattle.lazy_dfa.specs.Dfas.{Dfa, IsDfa, class_of, after, first_state, start_in, is_dead}
use Rattle.lazy_dfa.specs.Ids.{tag, unknown_id, quit_id, tagged, has_tag, start_tag}
use Rattle.lazy_dfa.specs.Caches.{CacheValue, IsShaped, IsCacheOf, Names, names_dead, names_held, same, row_holding, slot_of_start, new_id}
use Rattle.lazy_dfa.specs.Caches.{with_state}
use Rattle.lazy_dfa.specs.Caches.{IsRow, id_at, state_at, cleared}
use Rattle.lazy_dfa.specs.Steps.{Added, Grew, WasCleared, StepsTo, TagsStep}
use Rattle.lazy_dfa.specs.StartCalls.{TagsStart, ClearedFor, GivesStart, start_found, start_added}
use Rattle.lazy_dfa.proofs.CacheChanges.CacheLemmas.{IsShaped-cleared, fresh_at}
use Rattle.lazy_dfa.proofs.CacheChanges.ChangeLemmas.{added_refl, added_state, column, row_kept, cleared_few, same_grew}
use Rattle.lazy_dfa.proofs.CacheChanges.IsCacheLemmas.{alive_of, row_is_plain, same_row, le_of, names_starts}

-- ---- tags

off : (n : ℕ) → n ≡ 0 → (n == 1) ≡ false
off n e = ap (λ (m : ℕ). m == 1) e

-- the start tag is the one that was set
pub has_start : (b m : Bool) (p : ℕ) → p < tag → has_tag start_tag (tagged b m p) ≡ b
has_start true true p l = (Decides-eqb ((tagged true true p / start_tag) % 2) 1).1 (omega (arith, l))
has_start true false p l = (Decides-eqb ((tagged true false p / start_tag) % 2) 1).1 (omega (arith, l))
has_start false true p l = off ((tagged false true p / start_tag) % 2) (omega (arith, l))
has_start false false p l = off ((tagged false false p / start_tag) % 2) (omega (arith, l))

-- a state that is held isn't new
pub not_fresh : (d : Dfa) (v : CacheValue) (id : ℕ) (s : StateValue) → Names v id s → is_dead s ≡ false → row_holding s v.states ≡ None → ⊥
not_fresh d v id s (names_dead e f) alive fresh = alive_of s alive f
not_fresh d v id s (names_held h) alive fresh =
    true≢false (sym ((bytes_eq-Decides (encoded s) (encoded s)).1 refl) ∙ (ap (same s) h.3 ∙ fresh_at s v.states h.0 fresh h.1))

known_name : (v : CacheValue) (id : ℕ) (s : StateValue) → IsShaped v → Names v id s → id < unknown_id
known_name v id s i (names_dead e f) = omega (arith, e, i.narrow)
known_name v id s i (names_held h) = let l = row_is_plain v id h.0 i h.1 h.2 in omega (arith, l)

-- ---- a start that isn't known

pub unknown_start : (d : Dfa) (v : CacheValue) (m i q id : ℕ) (s : Start) → IsCacheOf d v → i ≡ slot_of_start m s →
    slot_of_start m s < length v.starts →
    start_in d m ≡ Some q →
    id ≡ get_or v.starts i 0 → nat_le unknown_id id ≡ true → get_or v.starts (slot_of_start m s) 0 ≡ unknown_id
unknown_start d v m i q id s own at inside named e high = ⊎_elim
    (λ (f : get_or v.starts (slot_of_start m s) 0 ≡ unknown_id). f)
    (λ (n : get_or v.starts (slot_of_start m s) 0 ≢ unknown_id).
    let read : id ≡ get_or v.starts (slot_of_start m s) 0 = e ∙ ap (λ (k : ℕ). get_or v.starts k 0) at in
    let low = known_name v (get_or v.starts (slot_of_start m s) 0) (first_state d s q) own.shape (own.starts m s inside n q named) in
    let g = le_of unknown_id id high in
    absurd (omega (arith, low, read, g)))
    (cases_eq (get_or v.starts (slot_of_start m s) 0) unknown_id)

-- an error of whatever kind
pub on_err : {A B X : Type 0} (r : Result A B) → X → OnErr r X
on_err (Ok a) x = tt
on_err (Err e) x = x

-- an allocation failed, or no room is made
pub unmade_start : (d : Dfa) (v w : CacheValue) → (w ≡ v) ⊎ (w ≡ cleared v) → Grew d v w ⊎ WasCleared v w 1
unmade_start d v w e = ⊎_elim (λ (f : w ≡ v). inl (subst (Grew d v) (sym f) (same_grew d v)))
    (λ (f : w ≡ cleared v). inr (cleared_few v w f)) e

module _ (d : Dfa) (v mid new : CacheValue) (i id : ℕ) (s : StateValue) (made : IsDfa d) (own : IsCacheOf d v)
    (unknown : get_or v.starts i 0 ≡ unknown_id) (placed : GivesStart d v mid s id)
    (e : new ≡ record mid { starts = set mid.starts i id }) where
  starts_on : Added v mid → (j : ℕ) → get_or v.starts j 0 ≢ unknown_id → get_or (set mid.starts i id) j 0 ≡ get_or v.starts j 0
  starts_on a j n = ⊎_elim
      (λ (f : j ≡ i). absurd (n (ap (λ (k : ℕ). get_or v.starts k 0) f ∙ unknown)))
      (λ (ne : j ≢ i). get_or-set_other mid.starts i j id 0 ne ∙ a.starts j n)
      (cases_eq j i)

  pub grew_start : Added v mid → Grew d v new
  grew_start a = subst (Grew d v) (sym e) (record {
    names = λ j t n. names_starts mid (set mid.starts i id) j t (a.names j t n);
    rows = λ j r. row_kept v (record mid { starts = set mid.starts i id }) own.shape
        (λ j t n. names_starts mid (set mid.starts i id) j t (a.names j t n)) j r;
    known = λ j w r unit n. a.cells j (class_of d.classes w) r (column d v made own w unit);
    starts = λ j n. starts_on a j n;
    clears = a.clears;
    searched = a.searched;
    progress = a.progress;
  })

  at_first : length (cleared v).cells ≡ 3 * v.stride
  at_first = (IsShaped-cleared v (cleared v).clears own.shape).sized

  abbrev fresh_id : ℕ
  fresh_id = new_id (cleared v) (specializes d.options) s

  alone : ClearedFor d v (record (with_state (specializes d.options) s (cleared v)) { starts = set (cleared v).starts i fresh_id }) i s
  alone = record {
    cleared = record { clears = refl; searched = refl; progress = refl; few = omega arith };
    states = refl;
    id = ap (λ (n : ℕ). tagged (specializes d.options) (is_match s.matches) n) at_first;
    starts = refl;
  }

  -- the cache grew, or only the start is left
  pub start_remains : Grew d v new ⊎ ClearedFor d v new i s
  start_remains = by placed
    where
      by : GivesStart d v mid s id → Grew d v new ⊎ ClearedFor d v new i s
      by (start_found f g) = inl (grew_start (subst (Added v) (sym f) (added_refl v own.shape)))
      by (start_added m room l f g) = ⊎_elim
          (λ (h : m ≡ v). inl (grew_start (subst (Added v) (sym (f ∙ ap (with_state (specializes d.options) s) h))
          (added_state v (specializes d.options) s own.shape))))
          (λ (h : m ≡ cleared v).
          let is : mid ≡ with_state (specializes d.options) s (cleared v) = f ∙ ap (with_state (specializes d.options) s) h in
          let named : id ≡ fresh_id = g ∙ ap (λ (x : CacheValue). new_id x (specializes d.options) s) h in
          inr (subst (λ (w : CacheValue). ClearedFor d v w i s)
          (sym (e ∙ (ap (λ (x : CacheValue). record x { starts = set x.starts i id }) is
          ∙ ap (λ (n : ℕ). record (with_state (specializes d.options) s (cleared v)) { starts = set (cleared v).starts i n }) named)))
          alone))
          room

  pub start_kept : Grew d v new ⊎ WasCleared v new 1
  start_kept = ⊎_elim (λ (g : Grew d v new). inl g) (λ (x : ClearedFor d v new i s). inr x.cleared) start_remains

-- a new start has the tag that it should have
pub start_tags : (d : Dfa) (v mid : CacheValue) (id : ℕ) (s : StateValue) → 0 < mid.stride → GivesStart d v mid s id → TagsStart d v s id
start_tags d v mid id s positive (start_found f g) alive fresh = absurd (g alive fresh)
start_tags d v mid id s positive (start_added m room l f g) alive fresh =
    let stride : mid.stride ≡ m.stride = ap (λ (x : CacheValue). x.stride) f in
    ap (has_tag start_tag) g ∙ has_start (specializes d.options) (is_match s.matches) (length m.cells) (omega (arith, l, stride, positive))

-- ---- tags of states to which steps lead

-- a state that a step adds has no start tag
pub made_tag : (mid : CacheValue) (s : StateValue) (to : ℕ) → 0 < mid.stride → length mid.cells + mid.stride ≤ tag →
    to ≡ new_id mid false s → has_tag start_tag to ≡ false
made_tag mid s to positive l e =
    ap (has_tag start_tag) e ∙ has_start false (is_match s.matches) (length mid.cells) (omega (arith, l, positive))

-- so a step that is made gives no start tag to a state that wasn't held
pub step_tags : (d : Dfa) (v mid : CacheValue) (id k : ℕ) (u : Option ℕ) (s : StateValue) (to : ℕ) → IsShaped v → mid ≡ v →
    k < length v.states → id ≡ id_at v k → s ≡ after d (state_at v k) u →
    (is_dead s ≡ false → row_holding s mid.states ≡ None → has_tag start_tag to ≡ false) → TagsStep d v id u to
step_tags d v mid id k u s to shape same_cache inside row value tag t h no_quit alive fresh =
    let one : state_at v k ≡ t = ap (state_at v) (same_row v k h.0 shape inside h.1 (sym row ∙ h.2)) ∙ sym h.3 in
    let is : s ≡ after d t u = value ∙ ap (λ (x : StateValue). after d x u) one in
    tag (ap is_dead is ∙ alive) (ap (λ (x : StateValue). row_holding x mid.states) is
    ∙ (ap (λ (w : CacheValue). row_holding (after d t u) w.states) same_cache ∙ fresh))

-- a step that is known leads to a state that is held
pub known_tags : (d : Dfa) (v : CacheValue) (id cell : ℕ) (u : Option ℕ) → StepsTo d v v id u cell → TagsStep d v id u cell
known_tags d v id cell u leads t h no_quit alive fresh = absurd (not_fresh d v cell (after d t u) ((leads t h).goes no_quit) alive fresh)

-- a known step by a quit byte leads to the quit sentinel
pub known_quits : (d : Dfa) (v : CacheValue) (id cell : ℕ) (u : Option ℕ) → StepsTo d v v id u cell → IsRow v id →
    is_quit d.quits u ≡ true → cell ≡ quit_id v.stride
known_quits d v id cell u leads row quit = (leads (state_at v row.0) (row.0, row.1, row.2, refl)).quits quit
