-- Changes of a cache one after the other, and the changes of one step.
use Rattle.std.proofs.Common.{◌≡◌, ◌⊎◌, ℕ, suc, ◌+◌, ◌≤◌, Bool, false, List, refl, sym, ap, ◌∙◌, subst, inl, inr, arith, ◌∷◌, ◌++◌, []}
use Rattle.std.proofs.Common.{Option, Some, None}
use Rattle.nfa_core.specs.Ways.{offset_of}
use Rattle.determinize_core.specs.States.{StateValue}
use Rattle.lazy_dfa.specs.Caches.{CacheValue, IsCacheOf, IsRow, HeldAt, state_at}
use Rattle.search_types.specs.declared.anchored.Anchored.{Anchored}
use Rattle.search_types.specs.Inputs.{Search}
use Rattle.lazy_dfa.specs.Changes.{Changes, unchanged, keeps, adds, clears, row_state, IsMadeAt, IsMadeFirst, IsMadeIn, IsMadeAmong}
use Rattle.lazy_dfa.specs.ConfigValue.{specializes}
use Rattle.lazy_dfa.specs.Courses.{state_after, AreRead}
use Rattle.lazy_dfa.specs.Dfas.{Dfa, after, reader}
use Rattle.lazy_dfa.specs.Linked.{IsMoved, start_from}
use Rattle.lazy_dfa.specs.ScanLaws.{unit_of}
use Rattle.lazy_dfa.specs.Readers.{Reader, is_quit}
use Rattle.lazy_dfa.specs.StartCalls.{start_first, StartAdds}
use Rattle.lazy_dfa.specs.Steps.{Grew, HasStatesOf, ComesTo, StepAdds}
use Rattle.lazy_dfa.proofs.CacheChanges.ChangeLemmas.{one_state}
use Rattle.lazy_dfa.proofs.Courses.CourseLemmas.{state_there, read_there, state_behind_one, read_one, not_dead}
use Rattle.lazy_dfa.proofs.CacheChanges.LinkedLemmas.{grew_grows, grows_moved}

-- ---- changes one after the other

module _ (d : Dfa) (P Q : Bool → Option StateValue → StateValue → Type 0)
    (into : (b : Bool) (o : Option StateValue) (s : StateValue) → P b o s → Q b o s) (v : CacheValue) where
  pub changes_into : (w : CacheValue) (n : ℕ) → Changes d P v w n → Changes d Q v w n
  changes_into _ _ (unchanged w n e) = unchanged w n e
  changes_into _ _ (keeps mid w n c g e) = keeps mid w n (changes_into mid n c) g e
  changes_into _ _ (adds b o s mid w m n l c own made g a) = adds b o s mid w m n l (changes_into mid m c) own (into b o s made) g a
  changes_into _ _ (clears b from s mid w m n l c own made x) =
      clears b from s mid w m n l (changes_into mid m c) own (into b (row_state from mid) s made) x

module _ (d : Dfa) (P : Bool → Option StateValue → StateValue → Type 0) (v : CacheValue) where
  pub changes_more : (w : CacheValue) (n k : ℕ) → n ≤ k → Changes d P v w n → Changes d P v w k
  changes_more _ _ k l (unchanged w n e) = unchanged w k e
  changes_more _ _ k l (keeps mid w n c g e) = keeps mid w k (changes_more mid n k l c) g e
  changes_more _ _ k l (adds b o s mid w m n lt c own made g a) = adds b o s mid w m k (omega (arith, l, lt)) c own made g a
  changes_more _ _ k l (clears b from s mid w m n lt c own made x) = clears b from s mid w m k (omega (arith, l, lt)) c own made x

  -- changes that follow others
  pub changes_on : (u : CacheValue) (m : ℕ) → Changes d P v u m → (w : CacheValue) (n k : ℕ) → m + n ≤ k → Changes d P u w n →
      Changes d P v w k
  changes_on u m before _ _ k l (unchanged w n e) =
      subst (λ (x : CacheValue). Changes d P v x k) (sym e) (changes_more u m k (omega (arith, l)) before)
  changes_on u m before _ _ k l (keeps mid w n c g e) = keeps mid w k (changes_on u m before mid n k l c) g e
  changes_on u m before _ _ k l (adds b o s mid w i n lt c own made g a) =
      adds b o s mid w (m + i) k (omega (arith, l, lt)) (changes_on u m before mid i (m + i) (omega arith) c) own made g a
  changes_on u m before _ _ k l (clears b from s mid w i n lt c own made x) =
      clears b from s mid w (m + i) k (omega (arith, l, lt)) (changes_on u m before mid i (m + i) (omega arith) c) own made x

moved_states : (v w : CacheValue) → IsMoved v w → HasStatesOf w v
moved_states v w e = (ap (λ (x : CacheValue). x.states) e, ap (λ (x : CacheValue). x.ids) e, ap (λ (x : CacheValue). x.clears) e)

-- changes after which nothing differs but the progress
pub changes_moved : (d : Dfa) (P : Bool → Option StateValue → StateValue → Type 0) (u v w : CacheValue) (n : ℕ) → IsMoved v w →
    Changes d P u v n → Changes d P u w n
changes_moved d P u v w n e c = keeps v w n c (grows_moved d v w e) (moved_states v w e)

-- changes before which nothing differs but the progress
pub changes_from_moved : (d : Dfa) (P : Bool → Option StateValue → StateValue → Type 0) (u v w : CacheValue) (n : ℕ) → IsMoved u v →
    Changes d P v w n → Changes d P u w n
changes_from_moved d P u v w n e c =
    changes_on d P u v 0 (changes_moved d P u u v 0 e (unchanged u 0 refl)) w n n (omega arith) c

-- ---- units that follow others

module _ (r : Reader) (h : List ℕ) (i j k l : ℕ) (there : j ≡ offset_of r.automaton.reverse i k) (v : StateValue)
    (read : AreRead r h i v k) where
  pub made_before : (b : Bool) (o : Option StateValue) (s : StateValue) → IsMadeAt r h i v k b o s → IsMadeAt r h i v (k + l) b o s
  made_before b o s (e, (n, lt, are, from, is)) = (e, (n, omega (arith, lt), are, from, is))

  pub made_behind : (b : Bool) (o : Option StateValue) (s : StateValue) → IsMadeAt r h j (state_after r h i v k) l b o s →
      IsMadeAt r h i v (k + l) b o s
  made_behind b o s (e, (n, lt, are, from, is)) =
      let one : k + suc n ≡ suc (k + n) = omega arith in (
        e,
        (
          k + n,
          omega (arith, lt),
          subst (AreRead r h i v) one (read_there r h i j k there v (suc n) read are),
          from ∙ ap Some (state_there r h i j k there v n),
          is ∙ (state_there r h i j k there v (suc n) ∙ ap (state_after r h i v) one),
        ),
      )

-- ---- one step

module _ (d : Dfa) (h : List ℕ) (old : CacheValue) (at id : ℕ) (u : Option ℕ) (own : IsCacheOf d old) (row : IsRow old id)
    (is : u ≡ unit_of (reader d) h at 0) where
  step_makes : (s : StateValue) → state_at old row.0 ≡ s → is_quit d.quits u ≡ false →
      IsMadeAt (reader d) h at s 1 false (Some (state_at old row.0)) (after d (state_at old row.0) u)
  step_makes s e quiet = (
    refl,
    (
      0,
      omega arith,
      read_one d h at u is s (not_dead s (λ z. own.lives row.0 row.1 (e ∙ z))) quiet,
      ap Some e,
      ap (λ (x : StateValue). after d x u) e ∙ sym (state_behind_one d h at u is s),
    ),
  )

  pub step_changes : (new : CacheValue) → StepAdds d old new id u → (s : StateValue) → HeldAt old id s →
      Changes d (IsMadeAt (reader d) h at s 1) old new 1
  step_changes new x s held = by (x row.0 row.1 row.2)
    where
      one : state_at old row.0 ≡ s
      one = one_state old id row.0 s own.shape row.1 row.2 held

      by : (Grew d old new × HasStatesOf new old) ⊎ ((is_quit d.quits u ≡ false) × ComesTo (Grew d old new) d false (Some row.0)
          (after d (state_at old row.0) u) old new) → Changes d (IsMadeAt (reader d) h at s 1) old new 1
      by (inl (g, e)) = keeps old new 1 (unchanged old 1 refl) (grew_grows d old new g) e
      by (inr (quiet, inl (g, inl e))) = keeps old new 1 (unchanged old 1 refl) (grew_grows d old new g) e
      by (inr (quiet, inl (g, inr a))) = adds false (Some (state_at old row.0)) (after d (state_at old row.0) u) old new 0 1 (omega arith)
          (unchanged old 0 refl) own (step_makes s one quiet) (grew_grows d old new g) a
      by (inr (quiet, inr m)) = clears false (Some row.0) (after d (state_at old row.0) u) old new 0 1 (omega arith)
          (unchanged old 0 refl) own (step_makes s one quiet) m

pub made_within : (r : Reader) (h : List ℕ) (i : ℕ) (v : StateValue) (n m : ℕ) → n ≤ m → (b : Bool) (o : Option StateValue)
    (s : StateValue) → IsMadeAt r h i v n b o s → IsMadeAt r h i v m b o s
made_within r h i v n m l b o s (e, (k, lt, are, from, is)) = (e, (k, omega (arith, l, lt), are, from, is))

-- ---- one start

module _ (d : Dfa) (mode : Anchored) (h : List ℕ) (i : ℕ) (P : Bool → Option StateValue → StateValue → Type 0)
    (into : (b : Bool) (o : Option StateValue) (s : StateValue) → IsMadeFirst d mode h i b o s →
    P b o s) (old new : CacheValue) (own : IsCacheOf d old) where
  pub start_changes : StartAdds d old new (start_from (reader d) mode h i) → Changes d P old new 1
  start_changes (inl (g, e)) = keeps old new 1 (unchanged old 1 refl) (grew_grows d old new g) e
  start_changes (inr (none, (q, named, inl (g, inl e)))) = keeps old new 1 (unchanged old 1 refl) (grew_grows d old new g) e
  start_changes (inr (none, (q, named, inl (g, inr a)))) =
      adds (specializes d.options) None (start_first d (start_from (reader d) mode h i) q) old new 0 1 (omega arith)
      (unchanged old 0 refl) own
      (into (specializes d.options) None (start_first d (start_from (reader d) mode h i) q) (refl, refl, none, (q, named, refl)))
      (grew_grows d old new g) a
  start_changes (inr (none, (q, named, inr m))) =
      clears (specializes d.options) None (start_first d (start_from (reader d) mode h i) q) old new 0 1 (omega arith)
      (unchanged old 0 refl) own
      (into (specializes d.options) None (start_first d (start_from (reader d) mode h i) q) (refl, refl, none, (q, named, refl))) m

-- ---- scans one after the other

module _ (d : Dfa) (q : Search) where
  pub among_before : (ps tail : List (ℕ × ℕ)) (b : Bool) (o : Option StateValue) (s : StateValue) → IsMadeAmong d q ps b o s →
      IsMadeAmong d q (ps ++ tail) b o s
  among_before [] tail b o s x = absurd x
  among_before (p ∷ ps) tail b o s (inl x) = inl x
  among_before (p ∷ ps) tail b o s (inr x) = inr (among_before ps tail b o s x)

  pub among_there : (ps tail : List (ℕ × ℕ)) (p : ℕ × ℕ) (b : Bool) (o : Option StateValue) (s : StateValue) →
      IsMadeIn d q.anchored q.earliest q.haystack p b o s → IsMadeAmong d q (ps ++ p ∷ tail) b o s
  among_there [] tail p b o s x = inl x
  among_there (first ∷ ps) tail p b o s x = inr (among_there ps tail p b o s x)
