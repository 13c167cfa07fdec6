-- How a cache stays the cache of its automaton.
use Rattle.std.proofs.Common.{◌≡◌, ◌≢◌, ℕ, zero, suc, ◌+◌, ◌*◌, ◌%◌, ◌/◌, ◌<◌, ◌≤◌, Bool, true, false, ◌⊎◌, List, [], ◌∷◌, ◌++◌, length}
use Rattle.std.proofs.Common.{get_or, set, replicate, refl, sym, ap, ◌∙◌, subst, inl, inr, ⊎_elim, arith, true≢false, Option, Some, None}
use Rattle.std.proofs.Common.{length-set, get_or-set_same, get_or-set_other}
use Rattle.std.proofs.lemmas.Bool.{cases_lt, cases_eq}
use Rattle.std.proofs.lemmas.Slice.Eq.{bytes_eq-Decides}
use Rattle.std.proofs.Math.Nat.{mul-le-mul_left, mul-div_cancel}
use lib.ListN.{get_or-append, get_or-replicate, length-replicate}
use lib.Seq.{get_or-append-add}
use Rattle.determinize_core.specs.States.{StateValue, dead, IsState}
use Rattle.determinize_core.specs.StateBytes.{encoded, is_match}
use Rattle.determinize_core.specs.Starts.{number_of}
use Rattle.determinize_core.specs.declared.start.Start.{Start}
use Rattle.determinize_core.specs.declared.start.Start.TheVariants.{NonWordByte, WordByte, Text, LineLF, LineCR, CustomLineTerminator}
use Rattle.determinize_core.specs.declared.start.Start.TheVariants.{CustomWordLineTerminator}
use Rattle.lazy_dfa.specs.ConfigValue.{kind_of}
use Rattle.lazy_dfa.specs.Readers.{is_quit}
use Rattle.lazy_dfa.specs.Dfas.{Dfa, IsDfa, IsStateOf, IsUnit, Alike, after, first_state, start_in, class_of, is_dead}
use Rattle.lazy_dfa.specs.Ids.{tag, tagged, unknown_id, quit_id}
use Rattle.lazy_dfa.specs.Caches.{CacheValue, IsShaped, IsCacheOf, Leads, Names, names_dead, names_held, HeldAt, IsRow, same, row_holding}
use Rattle.lazy_dfa.specs.Caches.{state_at, id_at, cell_at, slot_of_start, Begins, new_id, with_state, cleared, Fits}
use Rattle.lazy_dfa.proofs.CacheChanges.ListLemmas.{found_at, one_longer, below_or_last, at_old, at_last}
use Rattle.lazy_dfa.proofs.CacheChanges.CacheLemmas.{IsShaped-added, IsShaped-cleared, states_cost-append, place_in_none}
use Rattle.lazy_dfa.proofs.CacheChanges.CacheLemmas.{place_in_one, fresh_at}
use Rattle.std.proofs.lemmas.Bool.Decides.{leb_tells}
use Rattle.std.specs.Prelude.{nat_le, IfSome}
use Rattle.determinize_core.specs.Steps.{step_value, start_value}
use Rattle.determinize_core.proofs.ForCallers.{step_stepped, start_stepped, stepped_short}
use Rattle.determinize_core.specs.Stepped.{IsStepped, widest}
use Rattle.lazy_dfa.specs.Accounting.{Measures, longest_state}
use Rattle.look_core.specs.Terminators.{Terminator}
use Rattle.search_types.specs.declared.match_kind.MatchKind.{MatchKind}
use Rattle.nfa_core.specs.Nfa.{Automaton}
use Rattle.lazy_dfa.specs.Steps.{IsHeld, StepsTo}
use Rattle.nfa_core.proofs.ForCallers.{some_same}

-- ---- offsets

pub untag : (b m : Bool) (p : ℕ) → p < tag → tagged b m p % tag ≡ p
untag true true p l = omega (arith, l)
untag true false p l = omega (arith, l)
untag false true p l = omega (arith, l)
untag false false p l = omega (arith, l)

pub row_fits : (j n s : ℕ) → j < n → (j + 3) * s + s ≤ (n + 3) * s
row_fits j n s h = omega (arith, mul-le-mul_left {m = j + 4} {n = n + 3} s (omega (arith, h)))

same_place_below : (s j c k d : ℕ) → c < s → j < k → j * s + c ≡ k * s + d → ⊥
same_place_below s j c k d h l e = absurd (omega (arith, h, e, mul-le-mul_left {m = j + 1} {n = k} s (omega (arith, l))))

pub same_place : (s j c k d : ℕ) → c < s → d < s → (j + 3) * s + c ≡ (k + 3) * s + d → (j ≡ k) × (c ≡ d)
same_place s j c k d h g e =
    ⊎_elim (λ (same : j ≡ k). let f : j * s ≡ k * s = ap (λ (x : ℕ). x * s) same in (same, omega (arith, f, e)))
    (λ (ne : j ≢ k). ⊎_elim
    (λ (lt : j < k). absurd (same_place_below s j c k d h lt (omega (arith, e))))
    (λ (ge : k ≤ j). absurd (same_place_below s k d j c g (omega (arith, ge, ne)) (omega (arith, e))))
    (cases_lt j k))
    (cases_eq j k)

module _ (v : CacheValue) (i : IsShaped v) (k : ℕ) (l : k < length v.states) where
  pub row_is_low : (k + 3) * v.stride < tag
  row_is_low = let f = row_fits k (length v.states) v.stride l in omega (arith, f, i.sized, i.small, i.positive)

  pub untagged : id_at v k % tag ≡ (k + 3) * v.stride
  untagged = let t = i.tags k l in ap (λ (n : ℕ). n % tag) t.1 ∙ untag t.0 (is_match (state_at v k).matches) ((k + 3) * v.stride) row_is_low

  pub cell_inside : (c : ℕ) → c < v.stride → (k + 3) * v.stride + c < length v.cells
  cell_inside c h = let f = row_fits k (length v.states) v.stride l in omega (arith, f, h, i.sized)

  pub place_inside : (c : ℕ) → c < v.stride → id_at v k % tag + c < length v.cells
  place_inside c h = let e = untagged in let f = cell_inside c h in omega (arith, e, f)

  pub cell_read : (c : ℕ) → get_or v.cells (id_at v k % tag + c) 0 ≡ cell_at v k c
  cell_read c = ap (λ (n : ℕ). get_or v.cells (n + c) 0) untagged

-- ---- what IDs name

pub held_added : (v : CacheValue) (b : Bool) (t : StateValue) (id : ℕ) (s : StateValue) → IsShaped v → HeldAt v id s →
    HeldAt (with_state b t v) id s
held_added v b t id s i h =
    let k = h.0 in
    let l : length (v.states ++ t ∷ []) ≡ length v.states + 1 = one_longer v.states t in
    (k, omega (arith, l, h.1), h.2 ∙ sym (at_old v.ids (new_id v b t) 0 k (rw i.named h.1)), h.3 ∙ sym (at_old v.states t dead k h.1))

pub names_added : (v : CacheValue) (b : Bool) (t : StateValue) (id : ℕ) (s : StateValue) → IsShaped v → Names v id s →
    Names (with_state b t v) id s
names_added v b t id s i (names_dead e f) = names_dead e f
names_added v b t id s i (names_held h) = names_held (held_added v b t id s i h)

pub names_cells : (v : CacheValue) (cells : List ℕ) (id : ℕ) (s : StateValue) → Names v id s → Names (record v { cells = cells }) id s
names_cells v cells id s (names_dead e f) = names_dead e f
names_cells v cells id s (names_held h) = names_held h

-- the ID of the state that was just added
pub new_held : (v : CacheValue) (b : Bool) (s : StateValue) → IsShaped v → HeldAt (with_state b s v) (new_id v b s) s
new_held v b s i =
    let l : length (v.states ++ s ∷ []) ≡ length v.states + 1 = one_longer v.states s in (
      length v.states,
      omega (arith, l),
      sym (at_last v.ids (new_id v b s) 0 (length v.states) (sym i.named)),
      sym (at_last v.states s dead (length v.states) refl),
    )

pub leads_added : (d : Dfa) (v : CacheValue) (b : Bool) (t s : StateValue) (u : Option ℕ) (id : ℕ) → IsShaped v → Leads d v s u id →
    Leads d (with_state b t v) s u id
leads_added d v b t s u id i x = record { quits = x.quits; goes = λ e. names_added v b t id (after d s u) i (x.goes e) }

pub leads_cells : (d : Dfa) (v : CacheValue) (cells : List ℕ) (s : StateValue) (u : Option ℕ) (id : ℕ) → Leads d v s u id →
    Leads d (record v { cells = cells }) s u id
leads_cells d v cells s u id x = record { quits = x.quits; goes = λ e. names_cells v cells id (after d s u) (x.goes e) }

pub leads_alike : (d : Dfa) (v : CacheValue) (s : StateValue) (u w : Option ℕ) (id : ℕ) → IsStepped d.nfa.automaton s → Alike d u w →
    Leads d v s u id → Leads d v s w id
unfolding Alike
leads_alike d v s u w id looks a x = record {
  quits = λ e. x.quits (a.0 ∙ e);
  goes = λ e. subst (Names v id) (a.1 s looks) (x.goes (a.0 ∙ e));
}

-- ---- the whole invariant

blank : (v : CacheValue) (k c : ℕ) → IsShaped v → k ≡ length v.states → c < v.stride →
    get_or (v.cells ++ replicate v.stride unknown_id) ((k + 3) * v.stride + c) 0 ≡ unknown_id
blank v k c i e l =
    let place : (k + 3) * v.stride + c ≡ length v.cells + c = ap (λ (n : ℕ). (n + 3) * v.stride + c) e
    ∙ ap (λ (n : ℕ). n + c) (sym i.sized) in
    ap (λ (n : ℕ). get_or (v.cells ++ replicate v.stride unknown_id) n 0) place
    ∙ (get_or-append-add v.cells (replicate v.stride unknown_id) c 0 ∙ get_or-replicate v.stride c unknown_id 0 l)

pub is_cache_added : (d : Dfa) (v : CacheValue) (b : Bool) (s : StateValue) → IsDfa d → IsCacheOf d v → IsState s →
    row_holding s v.states ≡ None → Fits d.capacity s v →
    s ≢ dead → IsStateOf d s → IsCacheOf d (with_state b s v)
is_cache_added d v b s made own real fresh fits alive is =
    let n = length v.states in
    let long = one_longer v.states s in
    record {
      shape = IsShaped-added v b s own.shape real fresh fits.1;
      stride = own.stride;
      fresh = own.fresh;
      bound = own.bound;
      classes = own.classes;
      slots = own.slots;
      within = let e = states_cost-append v.stride v.states s in omega (arith, e, fits.0);
      lives = λ k l. ⊎_elim
          (λ (o : k < n). rw (at_old v.states s dead k o) (own.lives k o))
          (λ (e : k ≡ n). subst (λ (x : StateValue). x ≢ dead) (sym (at_last v.states s dead k e)) alive)
          (below_or_last k n (rw long at l));
      states = λ k l. ⊎_elim
          (λ (o : k < n). rw (at_old v.states s dead k o) (own.states k o))
          (λ (e : k ≡ n). subst (IsStateOf d) (sym (at_last v.states s dead k e)) is)
          (below_or_last k n (rw long at l));
      steps = λ k u l unit known. ⊎_elim
          (λ (o : k < n).
          let c = class_of d.classes u in
          let low : c < v.stride = rw own.stride (made.classed u unit) in
          let read : get_or (v.cells ++ replicate v.stride unknown_id) ((k + 3) * v.stride + c) 0 ≡ cell_at v k c =
          get_or-append v.cells (replicate v.stride unknown_id) 0 ((k + 3) * v.stride + c) (cell_inside v own.shape k o c low) in
          rw (read, at_old v.states s dead k o) (leads_added d v b s (state_at v k) u (cell_at v k c) own.shape
          (own.steps k u o unit (λ z. known (read ∙ z)))))
          (λ (e : k ≡ n).
          let low : class_of d.classes u < v.stride = rw own.stride (made.classed u unit) in
          absurd (known (blank v k (class_of d.classes u) own.shape e low)))
          (below_or_last k n (rw long at l));
      starts = λ m t l known q e. names_added v b s (get_or v.starts (slot_of_start m t) 0) (first_state d t q) own.shape
          (own.starts m t l known q e);
    }

pub is_cache_cleared : (d : Dfa) (v : CacheValue) → IsCacheOf d v → IsCacheOf d (cleared v)
is_cache_cleared d v own = record {
  shape = IsShaped-cleared v (cleared v).clears own.shape;
  stride = own.stride;
  fresh = own.fresh;
  bound = own.bound;
  classes = own.classes;
  slots = length-replicate _ _ ∙ own.slots;
  within = omega (arith, own.within);
  lives = λ k l. absurd (omega (arith, l));
  states = λ k l. absurd (omega (arith, l));
  steps = λ k u l unit known. absurd (omega (arith, l));
  starts = λ m t l known. absurd (known (get_or-replicate (length v.starts) (slot_of_start m t) unknown_id 0 (rw length-replicate at l)));
}

shape_cells : (v : CacheValue) (cells : List ℕ) → length cells ≡ length v.cells → IsShaped v → IsShaped (record v { cells = cells })
shape_cells v cells e i = record {
  positive = i.positive;
  narrow = i.narrow;
  sized = e ∙ i.sized;
  small = rw e i.small;
  named = i.named;
  tags = i.tags;
  real = i.real;
  apart = i.apart;
}

pub is_cache_set : (d : Dfa) (v : CacheValue) (k to : ℕ) (u : Option ℕ) → IsDfa d → IsCacheOf d v → k < length v.states → IsUnit u →
    Leads d v (state_at v k) u to →
    IsCacheOf d (record v { cells = set v.cells (id_at v k % tag + class_of d.classes u) to })
is_cache_set d v k to u made own l unit there =
    let i = own.shape in
    let c = class_of d.classes u in
    let at = id_at v k % tag + c in
    let low : c < v.stride = rw own.stride (made.classed u unit) in
    let place : at ≡ (k + 3) * v.stride + c = ap (λ (n : ℕ). n + c) (untagged v i k l) in
    let cells = set v.cells at to in
    record {
      shape = shape_cells v cells (length-set v.cells at to) i;
      stride = own.stride;
      fresh = own.fresh;
      bound = own.bound;
      classes = own.classes;
      slots = own.slots;
      within = own.within;
      lives = own.lives;
      states = own.states;
      steps = λ j w below unit2 known.
          let e = class_of d.classes w in
          let lower : e < v.stride = rw own.stride (made.classed w unit2) in
          ⊎_elim
          (λ (is : (j + 3) * v.stride + e ≡ at).
          let both = same_place v.stride j e k c lower low (is ∙ place) in
          let read : get_or cells ((j + 3) * v.stride + e) 0 ≡ to = ap (λ (n : ℕ). get_or cells n 0) is
          ∙ get_or-set_same v.cells at to 0 (place_inside v i k l c low) in
          let led = leads_alike d v (state_at v k) u w to (own.states k l).stepped (made.alike u w unit unit2 (sym both.1)) there in
          subst (λ (x : ℕ). Leads d (record v { cells = cells }) (state_at v j) w x) (sym read)
          (subst (λ (n : ℕ). Leads d (record v { cells = cells }) (state_at v n) w to) (sym both.0)
          (leads_cells d v cells (state_at v k) w to led)))
          (λ (ne : (j + 3) * v.stride + e ≢ at).
          let read : get_or cells ((j + 3) * v.stride + e) 0 ≡ cell_at v j e =
          get_or-set_other v.cells at ((j + 3) * v.stride + e) to 0 ne in
          subst (λ (x : ℕ). Leads d (record v { cells = cells }) (state_at v j) w x) (sym read)
          (leads_cells d v cells (state_at v j) w (cell_at v j e) (own.steps j w below unit2 (λ z. known (read ∙ z)))))
          (cases_eq ((j + 3) * v.stride + e) at);
      starts = λ m t l known q e. names_cells v cells (get_or v.starts (slot_of_start m t) 0) (first_state d t q)
          (own.starts m t l known q e);
    }

-- ---- starts

-- the start with a given number
abbrev numbered : ℕ → Start
numbered zero = NonWordByte
numbered (suc zero) = WordByte
numbered (suc (suc zero)) = Text
numbered (suc (suc (suc zero))) = LineLF
numbered (suc (suc (suc (suc zero)))) = LineCR
numbered (suc (suc (suc (suc (suc zero))))) = CustomLineTerminator
numbered (suc (suc (suc (suc (suc (suc n)))))) = CustomWordLineTerminator

pub numbered_back : (s : Start) → (numbered (number_of s) ≡ s) × (number_of s < 7)
numbered_back NonWordByte = (refl, omega arith)
numbered_back WordByte = (refl, omega arith)
numbered_back Text = (refl, omega arith)
numbered_back LineLF = (refl, omega arith)
numbered_back LineCR = (refl, omega arith)
numbered_back CustomLineTerminator = (refl, omega arith)
numbered_back CustomWordLineTerminator = (refl, omega arith)

same_slot : (m n : ℕ) (s t : Start) → slot_of_start m s ≡ slot_of_start n t → (m ≡ n) × (s ≡ t)
same_slot m n s t e =
    let f = (numbered_back s).1 in
    let g = (numbered_back t).1 in
    let modes : m ≡ n = omega (arith, e, f, g) in
    let numbers : number_of s ≡ number_of t = omega (arith, e, f, g) in
    (modes, sym (numbered_back s).0 ∙ (ap numbered numbers ∙ (numbered_back t).0))

pub names_starts : (v : CacheValue) (starts : List ℕ) (id : ℕ) (s : StateValue) → Names v id s →
    Names (record v { starts = starts }) id s
names_starts v starts id s (names_dead e f) = names_dead e f
names_starts v starts id s (names_held h) = names_held h

leads_starts : (d : Dfa) (v : CacheValue) (starts : List ℕ) (s : StateValue) (u : Option ℕ) (id : ℕ) → Leads d v s u id →
    Leads d (record v { starts = starts }) s u id
leads_starts d v starts s u id x = record { quits = x.quits; goes = λ e. names_starts v starts id (after d s u) (x.goes e) }

shape_starts : (v : CacheValue) (starts : List ℕ) → IsShaped v → IsShaped (record v { starts = starts })
shape_starts v starts i = record {
  positive = i.positive;
  narrow = i.narrow;
  sized = i.sized;
  small = i.small;
  named = i.named;
  tags = i.tags;
  real = i.real;
  apart = i.apart;
}

pub is_cache_started : (d : Dfa) (v : CacheValue) (m : ℕ) (s : Start) (to : ℕ) → IsCacheOf d v → slot_of_start m s < length v.starts →
    Begins d v m s to →
    IsCacheOf d (record v { starts = set v.starts (slot_of_start m s) to })
is_cache_started d v m s to own inside there =
    let starts = set v.starts (slot_of_start m s) to in
    record {
      shape = shape_starts v starts own.shape;
      stride = own.stride;
      fresh = own.fresh;
      bound = own.bound;
      classes = own.classes;
      slots = length-set v.starts (slot_of_start m s) to ∙ own.slots;
      within = own.within;
      lives = own.lives;
      states = own.states;
      steps = λ k u l unit known. leads_starts d v starts (state_at v k) u (cell_at v k (class_of d.classes u))
          (own.steps k u l unit known);
      starts = λ n t l known q e. ⊎_elim
          (λ (is : slot_of_start n t ≡ slot_of_start m s).
          let both = same_slot n m t s is in
          let read : get_or starts (slot_of_start n t) 0 ≡ to = ap (λ (i : ℕ). get_or starts i 0) is
          ∙ get_or-set_same v.starts (slot_of_start m s) to 0 inside in
          let f : start_in d m ≡ Some q = ap (start_in d) (sym both.0) ∙ e in
          subst (λ (x : ℕ). Names (record v { starts = starts }) x (first_state d t q)) (sym read)
          (subst (λ (x : Start). Names (record v { starts = starts }) to (first_state d x q)) (sym both.1)
          (names_starts v starts to (first_state d s q) (there q f))))
          (λ (ne : slot_of_start n t ≢ slot_of_start m s).
          let read : get_or starts (slot_of_start n t) 0 ≡ get_or v.starts (slot_of_start n t) 0 =
          get_or-set_other v.starts (slot_of_start m s) (slot_of_start n t) to 0 ne in
          subst (λ (x : ℕ). Names (record v { starts = starts }) x (first_state d t q)) (sym read)
          (names_starts v starts (get_or v.starts (slot_of_start n t) 0) (first_state d t q)
          (own.starts n t (rw length-set at l) (λ z. known (read ∙ z)) q e)))
          (cases_eq (slot_of_start n t) (slot_of_start m s));
    }

-- ---- what calls do

pub alive_of : (v : StateValue) → is_dead v ≡ false → v ≢ dead
alive_of v e f = true≢false (ap is_dead (sym f) ∙ e)

module _ (v : CacheValue) (s : StateValue) (i : IsShaped v) (real : IsState s) (reports : (v w : StateValue) → IsState v → IsState w →
    encoded v ≡ encoded w → v ≡ w) where
  found_held : (k : ℕ) → row_holding s v.states ≡ Some k → (k < length v.states) × HeldAt v (id_at v k) s
  unfolding row_holding
  found_held k e =
      let f = found_at (same s) dead v.states k e in
      (f.0, (k, f.0, refl, reports s (state_at v k) real (i.real k f.0) ((bytes_eq-Decides (encoded s) (encoded (state_at v k))).0 f.1)))

  pub held_some : (o : Option ℕ) → o ≡ row_holding s v.states → IfSome o (λ k. HeldAt v (id_at v k) s)
  held_some None e = tt
  held_some (Some k) e = (found_held k (sym e)).1

  pub row_some : (o : Option ℕ) → o ≡ row_holding s v.states → IfSome o (λ k. k < length v.states)
  row_some None e = tt
  row_some (Some k) e = (found_held k (sym e)).0

pub row_quotient : (v : CacheValue) (id n m : ℕ) (x : IsRow v id) → IsShaped v → n ≡ id → m ≡ v.stride → (n % tag) / m ≡ x.0 + 3
row_quotient v id n m x i e f =
    let place : n % tag ≡ (x.0 + 3) * v.stride = ap (λ (n : ℕ). n % tag) (e ∙ x.2) ∙ untagged v i x.0 x.1 in
    ap (λ (p : ℕ). p / m) place ∙ (ap (λ (q : ℕ). (x.0 + 3) * v.stride / q) f ∙ mul-div_cancel (x.0 + 3) i.positive)

module _ (d : Dfa) (v : CacheValue) (k : ℕ) (made : IsDfa d) (own : IsCacheOf d v) (l : k < length v.states) where
  abbrev x : StateValue
  x = state_at v k

  fits_alone : Fits d.capacity x (cleared v)
  fits_alone =
      let few = (IsShaped-cleared v (cleared v).clears own.shape).sized in
      let short = (own.states k l).short in
      (omega (arith, made.enough, short, own.stride, own.fresh), omega (arith, few, own.shape.narrow))

  pub is_cache_kept : (b : Bool) → IsCacheOf d (with_state b x (cleared v))
  is_cache_kept b = is_cache_added d (cleared v) b x made (is_cache_cleared d v own) (own.shape.real k l)
      (place_in_none x [] refl) fits_alone (own.lives k l) (own.states k l)

  pub kept_held : (b : Bool) → HeldAt (with_state b x (cleared v)) (new_id (cleared v) b x) x
  kept_held b = new_held (cleared v) b x (IsShaped-cleared v (cleared v).clears own.shape)

  pub fresh_beside : (b : Bool) (s : StateValue) → row_holding s v.states ≡ None → row_holding s (with_state b x (cleared v)).states ≡ None
  fresh_beside b s none = place_in_one s x (fresh_at s v.states k none l)

  -- after a clear that keeps the state there is room for another one
  pub fits_beside : (b : Bool) (s : StateValue) → IsStateOf d s → Fits d.capacity s (with_state b x (cleared v))
  fits_beside b s is =
      let short = (own.states k l).short in
      (omega (arith, made.enough, short, is.short, own.stride, own.fresh), omega (arith, (is_cache_kept b).shape.sized, own.shape.narrow))

  pub is_cache_refused : (w : CacheValue) → (w ≡ v) ⊎ (w ≡ cleared v) → IsCacheOf d w
  is_cache_refused w e = ⊎_elim (λ (f : w ≡ v). subst (IsCacheOf d) (sym f) own)
      (λ (f : w ≡ cleared v). subst (IsCacheOf d) (sym f) (is_cache_cleared d v own)) e

-- ---- steps

pub after_of : (d : Dfa) (a : Automaton) (t : Terminator) (kind : MatchKind) (s : StateValue) (u : Option ℕ) (r : StateValue) →
    a ≡ d.nfa.automaton → t ≡ d.nfa.terminator → kind ≡ kind_of d.options → r ≡ step_value a t kind s u → r ≡ after d s u
unfolding after
after_of d a t kind s u r e f g h =
    h ∙ (ap (λ (x : Automaton). step_value x t kind s u) e ∙ (ap (λ (x : Terminator). step_value d.nfa.automaton x kind s u) f
    ∙ ap (λ (x : MatchKind). step_value d.nfa.automaton d.nfa.terminator x s u) g))

as_long : (d : Dfa) → IsDfa d → widest d.nfa.automaton ≡ longest_state d.measures
as_long d made = ap (λ (m : Measures). longest_state m) (sym made.measured)

-- what starts and steps come to is a state of the automaton
is_state : (d : Dfa) (s : StateValue) → IsDfa d → IsStepped d.nfa.automaton s → IsStateOf d s
is_state d s made i = record {
  stepped = i;
  short = subst (λ (n : ℕ). length (encoded s) ≤ n) (as_long d made)
      (stepped_short d.nfa.automaton s i);
}

after_below : (d : Dfa) (s : StateValue) (u : Option ℕ) → IsDfa d → IsStateOf d (after d s u)
unfolding after
after_below d s u made = is_state d (after d s u) made (step_stepped d.nfa.automaton d.nfa.terminator (kind_of d.options) s u made.sound)

pub state_of : (d : Dfa) (s : StateValue) (u : Option ℕ) (r : StateValue) → IsDfa d → r ≡ after d s u → IsStateOf d r
state_of d s u r made e = subst (IsStateOf d) (sym e) (after_below d s u made)

tagged_low : (b m : Bool) (p : ℕ) → p < tag → tagged b m p < 0x2000_0000
tagged_low true true p l = omega (arith, l)
tagged_low true false p l = omega (arith, l)
tagged_low false true p l = omega (arith, l)
tagged_low false false p l = omega (arith, l)

pub row_is_plain : (v : CacheValue) (id k : ℕ) → IsShaped v → k < length v.states → id ≡ id_at v k → id < 0x2000_0000
row_is_plain v id k i l e =
    let t = i.tags k l in
    let low = tagged_low t.0 (is_match (state_at v k).matches) ((k + 3) * v.stride) (row_is_low v i k l) in
    subst (λ (n : ℕ). n < 0x2000_0000) (sym (e ∙ t.1)) low

pub le_of : (a b : ℕ) → nat_le a b ≡ true → a ≤ b
le_of a b e = ⊎_elim (λ p. p.1) (λ q. absurd (true≢false (sym e ∙ q.0))) (leb_tells a b)

pub lt_of : (a b : ℕ) → nat_le a b ≡ false → b < a
lt_of a b e = ⊎_elim (λ p. absurd (true≢false (sym p.0 ∙ e))) (λ q. q.1) (leb_tells a b)

pub row_of_held : (v : CacheValue) (id : ℕ) → IsHeld v id → nat_le 0x2000_0000 id ≡ false → IsRow v id
row_of_held v id (inl e) f = let l = lt_of 0x2000_0000 id f in absurd (omega (arith, e, l))
row_of_held v id (inr (inl e)) f = let l = lt_of 0x2000_0000 id f in absurd (omega (arith, e, l))
row_of_held v id (inr (inr x)) f = x

pub no_step : (d : Dfa) (v : CacheValue) (id r : ℕ) (u : Option ℕ) → IsShaped v → nat_le 0x2000_0000 id ≡ true → StepsTo d v v id u r
no_step d v id r u i e s h = let l = row_is_plain v id h.0 i h.1 h.2 in let g = le_of 0x2000_0000 id e in absurd (omega (arith, l, g))

pub same_row : (v : CacheValue) (j k : ℕ) → IsShaped v → j < length v.states → k < length v.states → id_at v j ≡ id_at v k → j ≡ k
same_row v j k i l m e =
    let p : (j + 3) * v.stride ≡ (k + 3) * v.stride = sym (untagged v i j l) ∙ (ap (λ (n : ℕ). n % tag) e ∙ untagged v i k m) in
    (same_place v.stride j 0 k 0 i.positive i.positive (omega (arith, p))).0

module _ (d : Dfa) (v : CacheValue) (id c : ℕ) (u : Option ℕ) (made : IsDfa d) (own : IsCacheOf d v) (unit : IsUnit u)
    (class : c ≡ class_of d.classes u) where
  low : c < v.stride
  low = rw (class, own.stride) (made.classed u unit)

  pub row_place : IsRow v id → id % tag + c < length v.cells
  row_place x = subst (λ (n : ℕ). n % tag + c < length v.cells) (sym x.2) (place_inside v own.shape x.0 x.1 c low)

  pub known_leads : (cell : ℕ) → cell ≡ get_or v.cells (id % tag + c) 0 → nat_le unknown_id cell ≡ false → StepsTo d v v id u cell
  known_leads cell e known s h =
      let read : cell ≡ cell_at v h.0 (class_of d.classes u) = e ∙ (ap (λ (n : ℕ). get_or v.cells (n % tag + c) 0) h.2
      ∙ (cell_read v own.shape h.0 h.1 c ∙ ap (cell_at v h.0) class)) in
      let led = own.steps h.0 u h.1 unit (λ z. let l = lt_of unknown_id cell known in absurd (omega (arith, l, read, z))) in
      subst (λ (t : StateValue). Leads d v t u cell) (sym h.3) (subst (Leads d v (state_at v h.0) u) (sym read) led)

  pub is_cache_stepped : (s : StateValue) (to : ℕ) (w : CacheValue) → HeldAt v id s → Leads d v s u to →
      w ≡ record v { cells = set v.cells (id % tag + c) to } → IsCacheOf d w
  is_cache_stepped s to w h there e =
      let led = subst (λ (t : StateValue). Leads d v t u to) h.3 there in
      let set_at = is_cache_set d v h.0 to u made own h.1 unit led in
      let same_at : id_at v h.0 % tag + class_of d.classes u ≡ id % tag + c =
      ap (λ (n : ℕ). n % tag + class_of d.classes u) (sym h.2) ∙ ap (λ (n : ℕ). id % tag + n) (sym class) in
      subst (IsCacheOf d) (sym e) (subst (λ (n : ℕ). IsCacheOf d (record v { cells = set v.cells n to })) same_at set_at)

  pub leads_stepped : (s : StateValue) (to : ℕ) (w : CacheValue) → Leads d v s u to →
      w ≡ record v { cells = set v.cells (id % tag + c) to } → Leads d w s u to
  leads_stepped s to w there e = subst (λ (x : CacheValue). Leads d x s u to) (sym e)
      (leads_cells d v (set v.cells (id % tag + c) to) s u to there)

pub leads_to : (d : Dfa) (v : CacheValue) (s t : StateValue) (u : Option ℕ) (to : ℕ) → is_quit d.quits u ≡ false → t ≡ after d s u →
    Names v to t → Leads d v s u to
leads_to d v s t u to no_quit is n = record {
  quits = λ e. absurd (true≢false (sym e ∙ no_quit));
  goes = λ _. subst (Names v to) is n;
}

pub leads_quit : (d : Dfa) (v : CacheValue) (s : StateValue) (u : Option ℕ) (to : ℕ) → is_quit d.quits u ≡ true → to ≡ quit_id v.stride →
    Leads d v s u to
leads_quit d v s u to quits e = record { quits = λ _. e; goes = λ f. absurd (true≢false (sym quits ∙ f)) }

-- each state that an ID named is the state of its row
pub steps_of_row : (d : Dfa) (old new : CacheValue) (id k : ℕ) (u : Option ℕ) (to : ℕ) → IsShaped old → k < length old.states →
    id ≡ id_at old k →
    Leads d new (state_at old k) u to → StepsTo d old new id u to
steps_of_row d old new id k u to i l e led s h =
    let same = same_row old k h.0 i l h.1 (sym e ∙ h.2) in
    subst (λ (t : StateValue). Leads d new t u to) (ap (state_at old) same ∙ sym h.3) led

-- ---- starts

pub first_of : (d : Dfa) (a : Automaton) (t : Terminator) (s : Start) (q : ℕ) (r : StateValue) → a ≡ d.nfa.automaton →
    t ≡ d.nfa.terminator → r ≡ start_value a t s q → r ≡ first_state d s q
unfolding first_state
first_of d a t s q r e f h = h ∙ (ap (λ (x : Automaton). start_value x t s q) e
    ∙ ap (λ (x : Terminator). start_value d.nfa.automaton x s q) f)

first_below : (d : Dfa) (s : Start) (q : ℕ) → IsDfa d → q < length d.nfa.automaton.states → IsStateOf d (first_state d s q)
unfolding first_state
first_below d s q made l = is_state d (first_state d s q) made (start_stepped d.nfa.automaton d.nfa.terminator s q made.sound l)

pub first_is : (d : Dfa) (s : Start) (q : ℕ) (r : StateValue) → IsDfa d → q < length d.nfa.automaton.states → r ≡ first_state d s q →
    IsStateOf d r
first_is d s q r made l e = subst (IsStateOf d) (sym e) (first_below d s q made l)

pub known_begins : (d : Dfa) (v : CacheValue) (m i q id : ℕ) (s : Start) → IsCacheOf d v → i ≡ slot_of_start m s →
    slot_of_start m s < length v.starts →
    start_in d m ≡ Some q →
    id ≡ get_or v.starts i 0 → nat_le unknown_id id ≡ false → Names v id (first_state d s q)
known_begins d v m i q id s own at inside named e known =
    let read : id ≡ get_or v.starts (slot_of_start m s) 0 = e ∙ ap (λ (n : ℕ). get_or v.starts n 0) at in
    subst (λ (n : ℕ). Names v n (first_state d s q)) (sym read)
    (own.starts m s inside (λ z. let l = lt_of unknown_id id known in absurd (omega (arith, l, read, z))) q named)

module _ (d : Dfa) (v w : CacheValue) (m i q to : ℕ) (s : Start) (state : StateValue) (at : i ≡ slot_of_start m s)
    (is : state ≡ first_state d s q)
    (names : Names v to state) (e : w ≡ record v { starts = set v.starts i to }) where
  pub started : IsCacheOf d v → slot_of_start m s < length v.starts → start_in d m ≡ Some q → IsCacheOf d w
  started own inside named =
      let there : Begins d v m s to = λ p f. subst (Names v to) (is ∙ ap (first_state d s) (some_same q p (sym named ∙ f))) names in
      subst (IsCacheOf d) (sym (e ∙ ap (λ (n : ℕ). record v { starts = set v.starts n to }) at))
      (is_cache_started d v m s to own inside there)

  pub names_started : Names w to (first_state d s q)
  names_started = subst (λ (x : CacheValue). Names x to (first_state d s q)) (sym e)
      (names_starts v (set v.starts i to) to (first_state d s q) (subst (Names v to) is names))
