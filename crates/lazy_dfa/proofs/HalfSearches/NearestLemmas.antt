-- What a scan finds that asks for the earliest end.
use Rattle.std.proofs.Common.{◌≡◌, ℕ, zero, suc, ◌+◌, ◌-◌, ◌<◌, ◌≤◌, Bool, true, false, not, List, [], ◌∷◌, length, Option, Some, None}
use Rattle.std.proofs.Common.{if◌then◌else◌, refl, sym, ap, ◌∙◌, ◌⊎◌, inl, inr, ⊎_elim, subst, arith}
use Rattle.std.proofs.lemmas.Bool.{cases_lt}
use Rattle.std.specs.Option.{option_or}
use Rattle.search_types.specs.declared.match_kind.MatchKind.{MatchKind}
use Rattle.search_types.specs.declared.match_kind.MatchKind.TheVariants.{All as AllMatches}
use Rattle.search_types.specs.declared.anchored.Anchored.{Anchored}
use Rattle.nfa_core.specs.Places.{first}
use Rattle.nfa_core.specs.Nfa.{Automaton, IsWellFormed}
use Rattle.nfa_core.specs.Ways.{span, offset_of, bytes_left, ends_from}
use Rattle.look_core.specs.Terminators.{Terminator}
use Rattle.determinize_core.specs.States.{StateValue, dead}
use Rattle.determinize_core.specs.Steps.{unit_at, step_value, value_after}
use Rattle.determinize_core.specs.Walked.{end_at}
use Rattle.determinize_core.proofs.ForCallers.{all_listed}
use Rattle.lazy_dfa.specs.Readers.{Reader, is_quit, HalfAnswer, found}
use Rattle.lazy_dfa.specs.Scans.{index_at, is_empty, is_dead, best_recorded, next_value, next_offset, pass_from, start_name, scan}
use Rattle.lazy_dfa.specs.ScanLaws.{IsNearestEnd}
use Rattle.lazy_dfa.proofs.HalfSearches.TurnLemmas.{place_next, dead_is, empty_is, one_found, turn_found}
use Rattle.nfa_core.proofs.ForCallers.{ends_inside}
use Rattle.lazy_dfa.proofs.HalfSearches.LastLemmas.{nearest_end, no_end_at_all}
use Rattle.lazy_dfa.proofs.HalfSearches.BothKindsLemmas.{step_same, first_same, none_of_first}
use Rattle.lazy_dfa.proofs.HalfSearches.PassLemmas.{dead_stays, walk, offset_after, walk_steps, pass_begun}

some_first : (xs : List ℕ) → is_empty xs ≡ false → (p : ℕ) × (first xs ≡ Some p)
some_first [] e = let never : true ≡ false = e in absurd (grind (arith, never))
some_first (x ∷ xs) e = (x, refl)

-- what the rest finds, depending on whether a state lists a match
if_listed : (empty : Bool) (y o : Option (ℕ × ℕ)) (rest : HalfAnswer) → (if not empty then found y else rest) ≡ found o →
    ((empty ≡ false) × (y ≡ o)) ⊎ ((empty ≡ true) × (rest ≡ found o))
if_listed true y o rest e = inr (refl, e)
if_listed false y o rest e = inl (refl, one_found y o e)

recorded_some : (j : ℕ) (v : StateValue) (p : ℕ) → first v.matches ≡ Some p → best_recorded j v None ≡ Some (j, p)
recorded_some j v p e = ap (λ (o : Option ℕ). option_or (end_at j o) None) e

recorded_none : (j : ℕ) (v : StateValue) → v.matches ≡ [] → best_recorded j v None ≡ None
recorded_none j v e = ap (λ (l : List ℕ). option_or (end_at j (first l)) None) e

module _ (r : Reader) (h : List ℕ) (i : ℕ) (state : ℕ → StateValue)
    (steps : (k : ℕ) → state (suc k) ≡ next_value r h (offset_of r.automaton.reverse i k) (state k)) where
  abbrev place : ℕ → ℕ
  place k = offset_of r.automaton.reverse i k

  abbrev listed : ℕ → List ℕ
  listed k = (state (suc k)).matches

  -- among the offsets k to k + d, counted in units, the nearest one after which a state lists a match
  abbrev pub IsNearest : ℕ → ℕ → Option (ℕ × ℕ) → Type 0
  IsNearest d k o =
      ((o ≡ None) × ((m : ℕ) → k ≤ m → m ≤ k + d → listed m ≡ [])) ⊎
      ((m : ℕ) × (p : ℕ) × (k ≤ m) × (m ≤ k + d) × (o ≡ Some (place m, p)) × (first (listed m) ≡ Some p) ×
      ((l : ℕ) → k ≤ l → l < m → listed l ≡ []))

  dead_later : (d k : ℕ) → state k ≡ dead → state (suc (k + d)) ≡ dead
  dead_later zero k e = ap (λ (n : ℕ). state (suc n)) (same k) ∙ steps k ∙ ap (next_value r h (place k)) e
      ∙ dead_stays r h (place k)
    where
      same : (k : ℕ) → k + 0 ≡ k
      same k = omega arith
  dead_later (suc d) k e = ap (λ (n : ℕ). state (suc n)) (next k d)
      ∙ dead_later d (suc k) (steps k ∙ ap (next_value r h (place k)) e ∙ dead_stays r h (place k))
    where
      next : (k d : ℕ) → k + suc d ≡ suc k + d
      next k d = omega arith

  none_of_dead : (k m : ℕ) → state k ≡ dead → k ≤ m → listed m ≡ []
  none_of_dead k m e l = ap (λ (n : ℕ). listed n) (there k m l) ∙ ap (λ (v : StateValue). v.matches) (dead_later (m - k) k e)
    where
      there : (k m : ℕ) → k ≤ m → m ≡ k + (m - k)
      there k m l = omega (arith, l)

  silent_first : (k : ℕ) → listed k ≡ [] → (d : ℕ) (o : Option (ℕ × ℕ)) → IsNearest d (suc k) o → IsNearest (suc d) k o
  silent_first k none d o near = ⊎_elim
      (λ (n : (o ≡ None) × ((m : ℕ) → suc k ≤ m → m ≤ suc k + d → listed m ≡ [])).
      inl (n.0, λ m from to. here_or_later m (λ l. n.1 m l (omega (arith, to))) from))
      (λ (s : (m : ℕ) × (p : ℕ) × (suc k ≤ m) × (m ≤ suc k + d) × (o ≡ Some (place m, p)) × (first (listed m) ≡ Some p) ×
      ((l : ℕ) → suc k ≤ l → l < m → listed l ≡ [])).
      let from = s.2 in let to = s.3 in
      inr (
        s.0,
        s.1,
        omega (arith, from),
        omega (arith, to),
        s.4,
        s.5,
        λ l above less. here_or_later l (λ past. s.6 l past less) above,
      )) near
    where
      here_or_later : (m : ℕ) → (suc k ≤ m → listed m ≡ []) → k ≤ m → listed m ≡ []
      here_or_later m later from = ⊎_elim
          (λ (past : k < m). later (omega (arith, past)))
          (λ (at : m ≤ k). let is : m ≡ k = omega (arith, at, from) in ap (λ (n : ℕ). listed n) is ∙ none) (cases_lt k m)

  abbrev on : ℕ → ℕ → StateValue → HalfAnswer
  on n k w = if not (is_empty w.matches) then found (best_recorded (place k) w None) else pass_from r true h n (next_offset r (place k)) w
      (best_recorded (place k) w None)

  next_is : (n k : ℕ) (o : Option (ℕ × ℕ)) → listed k ≡ [] →
      pass_from r true h n (next_offset r (place k)) (state (suc k)) (best_recorded (place k) (state (suc k)) None) ≡ found o →
      pass_from r true h n (place (suc k)) (state (suc k)) None ≡ found o
  next_is n k o none e =
      subst (λ (j : ℕ). pass_from r true h n j (state (suc k)) None ≡ found o) (place_next r.automaton.reverse i k)
      (subst (λ (best : Option (ℕ × ℕ)). pass_from r true h n (next_offset r (place k)) (state (suc k)) best ≡ found o)
      (recorded_none (place k) (state (suc k)) none) e)

  here_near : (d k : ℕ) (o : Option (ℕ × ℕ)) → is_empty (listed k) ≡ false → best_recorded (place k) (state (suc k)) None ≡ o →
      IsNearest d k o
  here_near d k o some is =
      let p = some_first (listed k) some in
      inr (
        k,
        p.0,
        omega arith,
        omega arith,
        sym is ∙ recorded_some (place k) (state (suc k)) p.0 p.1,
        p.1,
        λ l above less. absurd (omega (arith, above, less)),
      )

  near_turn : (n d k : ℕ) (o : Option (ℕ × ℕ)) → pass_from r true h (suc n) (place k) (state k) None ≡ found o →
      (listed k ≡ [] → pass_from r true h n (place (suc k)) (state (suc k)) None ≡ found o → IsNearest d k o) → IsNearest d k o
  unfolding pass_from
  near_turn n d k o e rest = ⊎_elim
      (λ (ended : (is_dead (state k) ≡ true) × (None ≡ o)).
      inl (sym ended.1, λ m from to. none_of_dead k m (dead_is (state k) ended.0) from))
      (λ (goes : (is_dead (state k) ≡ false) × (is_quit r.quits (unit_at r.automaton.reverse h (place k)) ≡ false) ×
      (on n k (next_value r h (place k) (state k)) ≡ found o)).
      ⊎_elim
      (λ (some : (is_empty (listed k) ≡ false) × (best_recorded (place k) (state (suc k)) None ≡ o)). here_near d k o some.0 some.1)
      (λ (none : (is_empty (listed k) ≡ true) ×
      (pass_from r true h n (next_offset r (place k)) (state (suc k)) (best_recorded (place k) (state (suc k)) None) ≡ found o)).
      rest (empty_is (listed k) none.0) (next_is n k o (empty_is (listed k) none.0) none.1))
      (if_listed (is_empty (listed k)) (best_recorded (place k) (state (suc k)) None) o
      (pass_from r true h n (next_offset r (place k)) (state (suc k)) (best_recorded (place k) (state (suc k)) None))
      (subst (λ (w : StateValue). on n k w ≡ found o) (sym (steps k)) goes.2)))
      (turn_found (is_dead (state k)) r.quits (unit_at r.automaton.reverse h (place k))
      (index_at r.automaton.reverse (place k)) None o (on n k (next_value r h (place k) (state k))) e)

  pub finds_nearest : (d k : ℕ) (o : Option (ℕ × ℕ)) → pass_from r true h (suc d) (place k) (state k) None ≡ found o →
      IsNearest d k o
  unfolding pass_from
  finds_nearest zero k o e =
      near_turn zero zero k o e
      (λ none last. inl (
        sym (one_found None o last),
        λ m from to. let is : m ≡ k = omega (arith, from, to) in
            ap (λ (n : ℕ). listed n) is ∙ none,
      ))
  finds_nearest (suc d) k o e =
      near_turn (suc d) (suc d) k o e (λ none later. silent_first k none d o (finds_nearest d (suc k) o later))

-- ---- both match kinds

module _ (kind : MatchKind) (a : Automaton) (t : Terminator) (h : List ℕ) (i q : ℕ) where
  abbrev of_kind : MatchKind → ℕ → StateValue
  of_kind m k = value_after a t m h i q k

  abbrev unit : ℕ → Option ℕ
  unit k = unit_at a.reverse h (offset_of a.reverse i k)

  step_from : (k : ℕ) (v w : StateValue) → v ≡ w → (step_value a t kind v (unit k)).matches ≡ [] →
      step_value a t kind v (unit k) ≡ step_value a t AllMatches w (unit k)
  step_from k v w e none = step_same a t (unit k) kind v none ∙ ap (λ (x : StateValue). step_value a t AllMatches x (unit k)) e

  -- the states are the same as long as none lists a match
  pub same_walk : (k : ℕ) → ((l : ℕ) → l < k → (of_kind kind (suc l)).matches ≡ []) → of_kind kind k ≡ of_kind AllMatches k
  same_walk zero silent = refl
  same_walk (suc k) silent =
      step_from k (of_kind kind k) (of_kind AllMatches k) (same_walk k (λ l less. silent l (omega (arith, less))))
      (silent k (omega arith))

  first_from : (k : ℕ) (v w : StateValue) → v ≡ w →
      first (step_value a t kind v (unit k)).matches ≡ first (step_value a t AllMatches w (unit k)).matches
  first_from k v w e = first_same a t (unit k) kind v
      ∙ ap (λ (x : StateValue). first (step_value a t AllMatches x (unit k)).matches) e

  -- the first state that lists a match lists the same pattern first
  pub same_first : (k : ℕ) → ((l : ℕ) → l < k → (of_kind kind (suc l)).matches ≡ []) →
      first (of_kind kind (suc k)).matches ≡ first (of_kind AllMatches (suc k)).matches
  same_first k silent = first_from k (of_kind kind k) (of_kind AllMatches k) (same_walk k silent)

  pub same_silent : (k : ℕ) → ((l : ℕ) → l < suc k → (of_kind kind (suc l)).matches ≡ []) →
      (of_kind AllMatches (suc k)).matches ≡ []
  same_silent k silent =
      none_of_first (of_kind AllMatches (suc k)).matches (sym (same_first k (λ l less. silent l (omega (arith, less))))
      ∙ ap first (silent k (omega arith)))

-- ---- whole scans

module _ (r : Reader) (mode : Anchored) (h : List ℕ) (s e i q : ℕ) (formed : IsWellFormed r.automaton) (below : i ≤ e)
    (within : e ≤ length h) (named : start_name r.automaton mode ≡ Some q) (low : q < length r.automaton.states) where
  abbrev left : ℕ
  left = bytes_left r.automaton.reverse (span r.terminator h s e) i

  abbrev ends : List (ℕ × ℕ)
  ends = ends_from r.automaton (span r.terminator h s e) (i, q)

  near_ends : (o : Option (ℕ × ℕ)) → IsNearest r h i (walk r h i q) (walk_steps r h i q) left 0 o →
      IsNearestEnd r.automaton.reverse ends o
  near_ends o near = ⊎_elim
      (λ (none : (o ≡ None) × ((m : ℕ) → 0 ≤ m → m ≤ 0 + left → (walk r h i q (suc m)).matches ≡ [])).
      subst (λ (x : Option (ℕ × ℕ)). IsNearestEnd r.automaton.reverse ends x) (sym none.0)
      (no_end_at_all r.automaton.reverse i left ends (value_after r.automaton r.terminator AllMatches h i q)
      (ends_inside r.automaton (span r.terminator h s e) i q formed (below, low))
      (λ k l. all_listed r.automaton r.terminator h s e i q formed below within low k l)
      (λ k l. same_silent r.kind r.automaton r.terminator h i q k (λ m less. none.1 m (omega arith) (omega (arith, l, less))))))
      (λ (some : (m : ℕ) × (p : ℕ) × (0 ≤ m) × (m ≤ 0 + left) × (o ≡ Some (offset_after r h i q m, p)) ×
      (first (walk r h i q (suc m)).matches ≡ Some p) × ((l : ℕ) → 0 ≤ l → l < m → (walk r h i q (suc l)).matches ≡ [])).
      let to = some.3 in
      subst (λ (x : Option (ℕ × ℕ)). IsNearestEnd r.automaton.reverse ends x) (sym some.4)
      (nearest_end r.automaton.reverse i left ends (value_after r.automaton r.terminator AllMatches h i q)
      (ends_inside r.automaton (span r.terminator h s e) i q formed (below, low))
      (λ k l. all_listed r.automaton r.terminator h s e i q formed below within low k l)
      some.0 some.1 (omega (arith, to))
      (sym (same_first r.kind r.automaton r.terminator h i q some.0 (λ l less. some.6 l (omega arith) less)) ∙ some.5)
      (λ l less. same_silent r.kind r.automaton r.terminator h i q l (λ m up. some.6 m (omega arith) (omega (arith, less, up))))))
      near

  pub pass_finds_nearest : (o : Option (ℕ × ℕ)) → scan r mode true h left i ≡ found o → IsNearestEnd r.automaton.reverse ends o
  pass_finds_nearest o is =
      near_ends o (finds_nearest r h i (walk r h i q) (walk_steps r h i q) left 0 o (pass_begun r mode true h left i q named o is))
