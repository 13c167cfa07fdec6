-- The course of a scan through some units and then more of them, and through one unit over a cache.
use Rattle.std.proofs.Common.{◌≡◌, ℕ, zero, suc, ◌+◌, ◌-◌, ◌<◌, ◌≤◌, true, false, List, [], ◌∷◌, Option, refl, sym, ap, ◌∙◌, ⊎_elim, arith}
use Rattle.std.proofs.Common.{true≢false}
use Rattle.std.proofs.lemmas.Bool.{cases_lt, cases_Bool}
use Rattle.nfa_core.specs.Ways.{offset_of}
use Rattle.determinize_core.specs.States.{StateValue, dead}
use Rattle.determinize_core.specs.StateBytes.{is_match}
use Rattle.determinize_core.specs.Steps.{unit_at}
use Rattle.lazy_dfa.specs.Courses.{state_after, best_after, AreRead}
use Rattle.lazy_dfa.specs.Dfas.{Dfa, after, reader}
use Rattle.lazy_dfa.specs.Scans.{is_dead, next_value, best_recorded}
use Rattle.lazy_dfa.specs.ScanLaws.{unit_of}
use Rattle.lazy_dfa.specs.Readers.{Reader, is_quit}
use Rattle.lazy_dfa.proofs.HalfSearches.TurnLemmas.{dead_is}
use Rattle.nfa_core.proofs.ForCallers.{place_zero}
use Rattle.lazy_dfa.proofs.HalfSearches.FoundLemmas.{place_add}

-- ---- units that follow others

module _ (r : Reader) (h : List ℕ) (i j k : ℕ) (there : j ≡ offset_of r.automaton.reverse i k) where
  place_there : (l : ℕ) → offset_of r.automaton.reverse j l ≡ offset_of r.automaton.reverse i (k + l)
  place_there l = ap (λ (x : ℕ). offset_of r.automaton.reverse x l) there ∙ place_add r.automaton.reverse i k l

  pub unit_there : (l : ℕ) → unit_of r h j l ≡ unit_of r h i (k + l)
  unit_there l = ap (unit_at r.automaton.reverse h) (place_there l)

  module _ (s : StateValue) where
    abbrev behind : StateValue
    behind = state_after r h i s k

    one_more : (l : ℕ) → suc (k + l) ≡ k + suc l
    one_more l = omega arith

    pub state_there : (l : ℕ) → state_after r h j behind l ≡ state_after r h i s (k + l)
    state_there zero = let e : k ≡ k + 0 = omega arith in ap (state_after r h i s) e
    state_there (suc l) =
        ap (next_value r h (offset_of r.automaton.reverse j l)) (state_there l)
        ∙ (ap (λ (x : ℕ). next_value r h x (state_after r h i s (k + l))) (place_there l)
        ∙ ap (state_after r h i s) (one_more l))

    pub best_there : (best : Option (ℕ × ℕ)) (l : ℕ) → best_after r h j behind (best_after r h i s best k) l ≡ best_after r h i s best
        (k + l)
    best_there best zero = let e : k ≡ k + 0 = omega arith in ap (best_after r h i s best) e
    best_there best (suc l) =
        let was = best_after r h j behind (best_after r h i s best k) l in
        ap (λ (x : ℕ). best_recorded x (state_after r h j behind (suc l)) was) (place_there l)
        ∙ (ap (λ (t : StateValue). best_recorded (offset_of r.automaton.reverse i (k + l)) t was) (state_there (suc l)
        ∙ sym (ap (state_after r h i s) (one_more l)))
        ∙ (ap (best_recorded (offset_of r.automaton.reverse i (k + l)) (state_after r h i s (suc (k + l)))) (best_there best l)
        ∙ ap (best_after r h i s best) (one_more l)))

    pub read_there : (l : ℕ) → AreRead r h i s k → AreRead r h j behind l → AreRead r h i s (k + l)
    read_there l first later m lt = ⊎_elim
        (λ (f : m < k). first m f)
        (λ (f : k ≤ m).
        let x = later (m - k) (omega (arith, f, lt)) in
        let e : m ≡ k + (m - k) = omega (arith, f) in
        record {
          alive = ap is_dead (ap (state_after r h i s) e ∙ sym (state_there (m - k))) ∙ x.alive;
          quiet = ap (is_quit r.quits) (ap (λ (n : ℕ). unit_of r h i n) e ∙ sym (unit_there (m - k))) ∙ x.quiet;
        })
        (cases_lt m k)

-- ---- one unit

step_from : (d : Dfa) (h : List ℕ) (at : ℕ) (s : StateValue) → next_value (reader d) h at s ≡ after d s
    (unit_at d.nfa.automaton.reverse h at)
unfolding next_value after
step_from d h at s = refl

module _ (d : Dfa) (h : List ℕ) (at : ℕ) (u : Option ℕ) (is : u ≡ unit_of (reader d) h at 0) where
  pub state_behind_one : (s : StateValue) → state_after (reader d) h at s 1 ≡ after d s u
  state_behind_one s = step_from d h (offset_of d.nfa.automaton.reverse at 0) s ∙ ap (after d s) (sym is)

  pub best_behind_one : (s : StateValue) (best : Option (ℕ × ℕ)) →
      best_recorded at (after d s u) best ≡ best_after (reader d) h at s best 1
  best_behind_one s best =
      ap (λ (x : ℕ). best_recorded x (after d s u) best) (sym (place_zero d.nfa.automaton.reverse at))
      ∙ ap (λ (t : StateValue). best_recorded (offset_of d.nfa.automaton.reverse at 0) t best) (sym (state_behind_one s))

  pub read_one : (s : StateValue) → is_dead s ≡ false → is_quit d.quits u ≡ false → AreRead (reader d) h at s 1
  read_one s alive quiet zero lt = record { alive = alive; quiet = ap (is_quit d.quits) (sym is) ∙ quiet }
  read_one s alive quiet (suc k) lt = absurd (omega (arith, lt))

pub not_dead : (s : StateValue) → (s ≡ dead → ⊥) → is_dead s ≡ false
not_dead s n = ⊎_elim (λ (e : is_dead s ≡ true). absurd (n (dead_is s e))) (λ (e : is_dead s ≡ false). e) (cases_Bool (is_dead s))

-- a state that lists no match leaves the match recorded before
pub unmatched : (s : StateValue) (at : ℕ) (best : Option (ℕ × ℕ)) → is_match s.matches ≡ false → best ≡ best_recorded at s best
unmatched s at best e = by_list s.matches e
  where
    by_list : (ms : List ℕ) → is_match ms ≡ false → best ≡ best_recorded at (record s { matches = ms }) best
    by_list [] e = refl
    by_list (p ∷ ps) e = absurd (true≢false e)
