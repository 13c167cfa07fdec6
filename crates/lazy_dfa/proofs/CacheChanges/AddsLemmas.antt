-- What steps and starts add to a cache, and when they clear it.
use Rattle.std.proofs.Common.{◌≡◌, ◌⊎◌, ℕ, ◌+◌, ◌<◌, ◌≤◌, Bool, true, false, length, refl, sym, ap, ◌∙◌, subst, inl, inr}
use Rattle.std.proofs.Common.{⊎_elim, arith, Option, Some, None}
use Rattle.std.specs.Prelude.{nat_le, ◌&&◌}
use Rattle.std.proofs.lemmas.Bool.Decides.{leb_tells}
use Rattle.determinize_core.specs.States.{StateValue}
use Rattle.determinize_core.specs.Starts.{StartValue, start_of}
use Rattle.determinize_core.specs.declared.start.Start.{Start}
use Rattle.lazy_dfa.specs.ConfigValue.{specializes}
use Rattle.lazy_dfa.specs.Dfas.{Dfa, IsStateOf, after, is_dead, start_in, first_state, cost}
use Rattle.lazy_dfa.specs.Ids.{tag}
use Rattle.lazy_dfa.specs.Caches.{CacheValue, IsShaped, Fits, fits, row_holding, state_at, id_at, with_state, usage}
use Rattle.lazy_dfa.specs.Readers.{is_quit}
use Rattle.lazy_dfa.specs.StartCalls.{mode_of, rejected_start, StartAdds}
use Rattle.lazy_dfa.specs.Steps.{Added, Grew, HasStatesOf, ClearsFor, ComesTo, StepAdds}
use Rattle.lazy_dfa.proofs.CacheChanges.ChangeLemmas.{added_none, added_one}
use Rattle.lazy_dfa.proofs.CacheChanges.IsCacheLemmas.{same_row}

pub same_states : (v w : CacheValue) → w ≡ v → HasStatesOf w v
same_states v w e = (ap (λ (x : CacheValue). x.states) e, ap (λ (x : CacheValue). x.ids) e, ap (λ (x : CacheValue). x.clears) e)

pub states_trans : (u v w : CacheValue) → HasStatesOf v u → HasStatesOf w v → HasStatesOf w u
states_trans u v w e f = (f.0 ∙ e.0, f.1 ∙ e.1, f.2 ∙ e.2)

both_true : (a b : Bool) → a ≡ true → b ≡ true → (a && b) ≡ true
both_true a b e f = rw (e, f) refl

le_true : (m n : ℕ) → m ≤ n → nat_le m n ≡ true
le_true m n l = ⊎_elim (λ p. p.0) (λ q. let g = q.1 in absurd (omega (arith, l, g))) (leb_tells m n)

fits_true : (d : Dfa) (s : StateValue) (v : CacheValue) → Fits d.capacity s v → fits d.capacity s v ≡ true
fits_true d s v f = both_true (nat_le (usage v + cost v.stride s) d.capacity) (nat_le (length v.cells + v.stride) tag)
    (le_true (usage v + cost v.stride s) d.capacity f.0) (le_true (length v.cells + v.stride) tag f.1)

module _ (d : Dfa) (b : Bool) (from : Option ℕ) (s : StateValue) (v mid new : CacheValue) (shape : IsShaped v) where
  -- the state isn't the dead one and isn't held, and it has room or room was made; nothing was added after that
  pub comes_alone : (mid ≡ v) ⊎ ClearsFor d from s v mid → new ≡ mid → ComesTo (Added v new) d b from s v new
  comes_alone (inl f) e = inl (added_none v new shape (e ∙ f), inl (same_states v new (e ∙ f)))
  comes_alone (inr x) e = inr (record { middle = mid; clears = x; states = inl (same_states mid new e) })

  -- the state was added
  pub comes_with : (mid ≡ v) ⊎ ClearsFor d from s v mid → IsStateOf d s → is_dead s ≡ false → row_holding s v.states ≡ None →
      Fits d.capacity s mid →
      new ≡ with_state b s mid → ComesTo (Added v new) d b from s v new
  comes_with (inl f) is alive fresh fit e = inl (
    added_one v mid new b s shape f e,
    inr (record {
      is = is;
      alive = alive;
      fresh = fresh;
      fits = fits_true d s v (subst (Fits d.capacity s) f fit);
      states = same_states (with_state b s v) new (e ∙ ap (with_state b s) f);
    }),
  )
  comes_with (inr x) is alive fresh fit e = inr (record { middle = mid; clears = x; states = inr (same_states (with_state b s mid) new e) })

-- what a state came to still holds after a write that leaves the states
module _ (d : Dfa) (b : Bool) (from : Option ℕ) (s : StateValue) (v mid new : CacheValue) (same : HasStatesOf new mid) (K L : Type 0)
    (keeps : K → L) where
  pub comes_written : ComesTo K d b from s v mid → ComesTo L d b from s v new
  comes_written (inl (a, inl e)) = inl (keeps a, inl (states_trans v mid new e same))
  comes_written (inl (a, inr x)) = inl (
    keeps a,
    inr (record {
      is = x.is;
      alive = x.alive;
      fresh = x.fresh;
      fits = x.fits;
      states = states_trans (with_state b s v) mid new x.states same;
    }),
  )
  comes_written (inr x) = inr (record {
    middle = x.middle;
    clears = x.clears;
    states = ⊎_elim
        (λ (e : HasStatesOf mid x.middle). inl (states_trans x.middle mid new e same))
        (λ (e : HasStatesOf mid (with_state b s x.middle)). inr (states_trans (with_state b s x.middle) mid new e same))
        x.states;
  })

-- a step from a row, by what it comes to
pub step_adds : (d : Dfa) (v was new : CacheValue) (id k : ℕ) (u : Option ℕ) (s : StateValue) → IsShaped v → was ≡ v → k < length v.states →
    id ≡ id_at v k → s ≡ after d (state_at v k) u →
    is_quit d.quits u ≡ false → ComesTo (Grew d v new) d false (Some k) s was new → StepAdds d v new id u
step_adds d v was new id k u s shape same_cache inside row value no_quit comes j l e =
    let one : k ≡ j = same_row v k j shape inside l (sym row ∙ e) in
    inr (
      no_quit,
      subst (λ (i : ℕ). ComesTo (Grew d v new) d false (Some i) (after d (state_at v i) u) v new) one
          (subst (λ (t : StateValue). ComesTo (Grew d v new) d false (Some k) t v new) value
          (subst (λ (w : CacheValue). ComesTo (Grew d v new) d false (Some k) s w new) same_cache comes)),
    )

-- a step that makes nothing
pub step_adds_none : (d : Dfa) (v new : CacheValue) (id : ℕ) (u : Option ℕ) → Grew d v new → HasStatesOf new v → StepAdds d v new id u
step_adds_none d v new id u grew same k l e = inl (grew, same)

-- a start, by the state that it comes to
pub start_adds : (d : Dfa) (c : StartValue) (n q : ℕ) (s : Start) (v new : CacheValue) → rejected_start d c ≡ None →
    Some q ≡ start_in d (mode_of c.anchored) →
    s ≡ start_of d.nfa.terminator c.look_behind →
    (Grew d v new × HasStatesOf new v) ⊎ ComesTo (Grew d v new) d (specializes d.options) None (first_state d s q) v new →
    StartAdds d v new c
start_adds d c n q s v new none named is (inl x) = inl x
start_adds d c n q s v new none named is (inr x) = inr (
  none,
  (
    q,
    sym named,
    subst (λ (t : Start). ComesTo (Grew d v new) d (specializes d.options) None (first_state d t q) v new) is x,
  ),
)

-- a start and the write after it
pub start_comes : (d : Dfa) (v was mid new : CacheValue) (s t : StateValue) → was ≡ v → s ≡ t → HasStatesOf new mid →
    (Added v mid → Grew d v new) →
    ComesTo (Added was mid) d (specializes d.options) None s was mid → ComesTo (Grew d v new) d (specializes d.options) None t v new
start_comes d v was mid new s t same_cache is same keeps comes =
    comes_written d (specializes d.options) None t v mid new same (Added v mid) (Grew d v new) keeps
    (subst (λ (x : StateValue). ComesTo (Added v mid) d (specializes d.options) None x v mid) is
    (subst (λ (w : CacheValue). ComesTo (Added w mid) d (specializes d.options) None s w mid) same_cache comes))
