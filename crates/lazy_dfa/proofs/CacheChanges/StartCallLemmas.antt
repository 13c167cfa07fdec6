-- The results of start calls, by their modes.
use Rattle.std.proofs.Common.{◌≡◌, ℕ, zero, suc, ◌+◌, ◌*◌, ◌<◌, ◌≤◌, ◌≢◌, ◌⊎◌, Bool, true, false, List, ◌∷◌, length, get_or, refl, sym, []}
use Rattle.std.proofs.Common.{ap, ◌∙◌, subst, inl, inr, ⊎_elim, arith, Option, Some, None, true≢false, Result, Ok}
use Rattle.std.specs.Prelude.{slice_get, if◌then◌else◌, MatchOption}
use Rattle.search_types.specs.declared.anchored.Anchored.{Anchored}
use Rattle.search_types.specs.declared.anchored.Anchored.TheVariants.{No, Yes, Pattern}
use Rattle.determinize_core.specs.Starts.{StartValue, start_of}
use Rattle.determinize_core.specs.declared.start.Start.{Start}
use Rattle.lazy_dfa.specs.Accounting.{Measures, start_count}
use Rattle.lazy_dfa.specs.ConfigValue.{starts_each_of}
use Rattle.lazy_dfa.specs.Dfas.{Dfa, IsDfa, start_in, first_state}
use Rattle.lazy_dfa.specs.Ids.{unknown_id}
use Rattle.lazy_dfa.specs.Caches.{CacheValue, IsCacheOf, slot_of_start, needs_clear, has_no_room}
use Rattle.lazy_dfa.specs.Readers.{is_quit}
use Rattle.lazy_dfa.specs.Steps.{Grew}
use Rattle.lazy_dfa.specs.StartCalls.{mode_of, rejected_by_quit, rejected_by_byte, rejected_mode, rejected_start, start_slot, start_first}
use Rattle.lazy_dfa.specs.StartCalls.{start_noted}
use Rattle.lazy_dfa.specs.StartCalls.{IsStartKnown, StartNeedsClear, ClearedFor, StartCleared, TagsStart, StartGivesUp}
use Rattle.lazy_dfa.specs.declared.cache_error.CacheError.{CacheError}
use Rattle.lazy_dfa.specs.declared.start_error.StartError.{StartError}
use Rattle.lazy_dfa.specs.declared.start_error.StartError.TheVariants.{UnsupportedAnchored}
use Rattle.lazy_dfa.proofs.CacheChanges.IsCacheLemmas.{numbered_back}

inside_of : {X : Type 0} (xs : List X) (k : ℕ) (x : X) → slice_get xs k ≡ Some x → k < length xs
inside_of [] k x e = absurd cc
inside_of (y ∷ ys) zero x e = omega arith
inside_of (y ∷ ys) (suc k) x e = let l = inside_of ys k x e in omega (arith, l)

starts_are : (d : Dfa) (v : CacheValue) → IsDfa d → IsCacheOf d v → length v.starts ≡ start_count (starts_each_of d.options)
    (length d.nfa.automaton.start_pattern)
starts_are d v made own = own.slots ∙ ap (λ (m : Measures). m.starts) made.measured

at_least : (each : Bool) (p : ℕ) → 14 ≤ start_count each p
at_least true p = omega arith
at_least false p = omega arith

-- each mode that is supported and has a state to start in has its slots
pub slot_inside : (d : Dfa) (v : CacheValue) (mode : Anchored) (s : Start) (q n : ℕ) → IsDfa d → IsCacheOf d v →
    rejected_mode d mode ≡ None → n ≡ mode_of mode →
    start_in d n ≡ Some q → slot_of_start n s < length v.starts
slot_inside d v No s q n made own fine e f =
    let few = (numbered_back s).1 in let long = starts_are d v made own in let least =
    at_least (starts_each_of d.options) (length d.nfa.automaton.start_pattern) in
    omega (arith, few, long, least, e)
slot_inside d v Yes s q n made own fine e f =
    let few = (numbered_back s).1 in let long = starts_are d v made own in let least =
    at_least (starts_each_of d.options) (length d.nfa.automaton.start_pattern) in
    omega (arith, few, long, least, e)
slot_inside d v (Pattern p) s q n made own fine e f =
    let l : p < length d.nfa.automaton.start_pattern = inside_of d.nfa.automaton.start_pattern p q (ap (start_in d) (sym e) ∙ f) in
    let few = (numbered_back s).1 in
    let long : length v.starts ≡ 14 + 7 * length d.nfa.automaton.start_pattern =
    starts_are d v made own ∙ ap (λ (b : Bool). start_count b (length d.nfa.automaton.start_pattern))
    (on (starts_each_of d.options) fine) in
    omega (arith, few, long, l, e)
  where
    on : (b : Bool) → (if b then None else Some (UnsupportedAnchored (Pattern p))) ≡ None → b ≡ true
    on true e = refl
    on false e = absurd cc

-- ---- errors

quit_passes : (quits : Bool) (b : ℕ) (rest : Option StartError) → rejected_by_quit quits b rest ≡ None → rest ≡ None
quit_passes true b rest e = absurd cc
quit_passes false b rest e = e

pub mode_fine : (d : Dfa) (c : StartValue) → rejected_start d c ≡ None → rejected_mode d c.anchored ≡ None
mode_fine d c e = by_behind c.look_behind e
  where
    by_behind : (o : Option ℕ) → rejected_by_byte d o (rejected_mode d c.anchored) ≡ None → rejected_mode d c.anchored ≡ None
    by_behind None e = e
    by_behind (Some b) e = quit_passes (is_quit d.quits (Some b)) b (rejected_mode d c.anchored) e

-- ---- results

-- if the start wasn't rejected, there is no error and the mode is supported
pub allowed_of : (d : Dfa) (c : StartValue) (r : Option StartError) (o : Option ℕ) (m : Anchored) → r ≡ None →
    r ≡ rejected_by_byte d o (rejected_mode d m) → o ≡ c.look_behind → m ≡ c.anchored →
    rejected_start d c ≡ None
allowed_of d c r o m none e f g =
    ap (λ (o : Option ℕ). rejected_by_byte d o (rejected_mode d c.anchored)) (sym f)
    ∙ (ap (λ (m : Anchored). rejected_by_byte d o (rejected_mode d m)) (sym g) ∙ (sym e ∙ none))

pub fine_of : (d : Dfa) (c : StartValue) (r : Option StartError) (o : Option ℕ) (m : Anchored) → r ≡ None →
    r ≡ rejected_by_byte d o (rejected_mode d m) → o ≡ c.look_behind → m ≡ c.anchored →
    rejected_mode d c.anchored ≡ None
fine_of d c r o m none e f g = mode_fine d c (allowed_of d c r o m none e f g)

told_known : (id n : ℕ) (r : Result ℕ CacheError) (t : Result ℕ StartError) → r ≡ Ok id → r ≡ Ok n → t ≡ Ok id → t ≡ Ok n
told_known id n r t e f g = let same : id ≡ n = cc in g ∙ ap (λ (i : ℕ). Ok i) same

module _ (d : Dfa) (c : StartValue) (n q : ℕ) (s : Start) (named : Some q ≡ start_in d (mode_of c.anchored))
    (number : n ≡ mode_of c.anchored)
    (is : s ≡ start_of d.nfa.terminator c.look_behind) where
  same_slot : slot_of_start n s ≡ start_slot d c
  same_slot = ap (λ (m : ℕ). slot_of_start m s) number ∙ ap (λ (t : Start). slot_of_start (mode_of c.anchored) t) is

  -- a start for which nothing has to be made is known
  pub known_here : (v : CacheValue) → rejected_start d c ≡ None → IsStartKnown d v c → get_or v.starts (slot_of_start n s) 0 ≢ unknown_id
  known_here v none (inl r) z = r none
  known_here v none (inr (inl e)) z = let f : Some q ≡ None = named ∙ e in absurd cc
  known_here v none (inr (inr k)) z = k (ap (λ (i : ℕ). get_or v.starts i 0) (sym same_slot) ∙ z)

  pub start_left : (v w : CacheValue) → Grew d v w ⊎ ClearedFor d v w (slot_of_start n s) (first_state d s q) → Grew d v w ⊎
      StartCleared d v w c
  start_left v w e = ⊎_elim
      (λ (g : Grew d v w). inl g)
      (λ (x : ClearedFor d v w (slot_of_start n s) (first_state d s q)). inr (record {
        name = q;
        named = sym named;
        clears = subst (λ (i : ℕ). ClearedFor d v w i (start_first d c q)) same_slot
            (subst (λ (t : Start). ClearedFor d v w (slot_of_start n s) (first_state d t q)) is x);
      }))
      e

  -- if a state needs a clear, so does its start
  pub start_needs : (v w : CacheValue) → Grew d v w ⊎ ((get_or v.starts (slot_of_start n s) 0 ≡ unknown_id) ×
      (needs_clear d v (first_state d s q) ≡ true)) →
      Grew d v w ⊎ StartNeedsClear d v c
  start_needs v w e = ⊎_elim
      (λ (g : Grew d v w). inl g)
      (λ (x : (get_or v.starts (slot_of_start n s) 0 ≡ unknown_id) × (needs_clear d v (first_state d s q) ≡ true)). inr (record {
        name = q;
        named = sym named;
        unknown = ap (λ (i : ℕ). get_or v.starts i 0) (sym same_slot) ∙ x.0;
        needs = subst (λ (t : Start). needs_clear d v (first_state d t q) ≡ true) is x.1;
      }))
      e

  pub start_noted_at : (v : CacheValue) (id : ℕ) → get_or v.starts (slot_of_start n s) 0 ≡ id → start_noted d v c ≡ id
  start_noted_at v id e = ap (λ (i : ℕ). get_or v.starts i 0) (sym same_slot) ∙ e

  -- if a start was known, its ID is the result
  pub start_known : (old : CacheValue) (id : ℕ) (r : Result ℕ CacheError) (t : Result ℕ StartError) → r ≡ Ok id → t ≡ Ok id →
      r ≡ Ok (get_or old.starts (slot_of_start n s) 0) → t ≡ Ok (start_noted d old c)
  start_known old id r t e f g =
      told_known id (start_noted d old c) r t e (g ∙ ap (λ (i : ℕ). Ok (get_or old.starts i 0)) same_slot) f

  pub start_tagged : (old : CacheValue) (id : ℕ) → TagsStart d old (first_state d s q) id → (r : ℕ) →
      start_in d (mode_of c.anchored) ≡ Some r → TagsStart d old (start_first d c r) id
  start_tagged old id h r e =
      let f : Some q ≡ Some r = named ∙ e in
      let same : q ≡ r = cc in
      subst (λ (r : ℕ). TagsStart d old (start_first d c r) id) same (subst (λ (t : Start). TagsStart d old (first_state d t q) id) is h)

  pub start_fits : (old : CacheValue) → (get_or old.starts (slot_of_start n s) 0 ≡ unknown_id →
      has_no_room d old (first_state d s q) ≡ false) →
      StartGivesUp d old c → ⊥
  start_fits old h gives =
      let lacks = subst (λ (o : Option ℕ). MatchOption o ⊥ (λ r. has_no_room d old (start_first d c r) ≡ true)) (sym named) gives.lacks in
      let none = h (ap (λ (i : ℕ). get_or old.starts i 0) same_slot ∙ gives.unknown) in
      true≢false (sym lacks ∙ (sym (ap (λ (t : Start). has_no_room d old (first_state d t q)) is) ∙ none))

pub not_none : {X : Type 0} (o : Option X) (x : X) → o ≡ Some x → o ≡ None → ⊥
not_none o x f g = let h : Some x ≡ None = sym f ∙ g in absurd cc
