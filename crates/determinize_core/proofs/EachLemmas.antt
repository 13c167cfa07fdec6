-- The loop over the states at an offset, which lists their patterns and closes where they lead by the unit.
use Rattle.std.proofs.Common.{◌≡◌, ℕ, ◌+◌, ◌<◌, ◌≤◌, Bool, true, false, List, [], ◌∷◌, ◌++◌, length, drop, All, Option, refl, sym}
use Rattle.std.proofs.Common.{ap, ◌∙◌, arith, subst}
use Rattle.std.specs.Bool.{nat_eq}
use Rattle.std.specs.List.{flat_map, IsDistinct}
use Rattle.search_types.specs.declared.match_kind.MatchKind.{MatchKind}
use Rattle.nfa_core.specs.Walks.{Visits}
use Rattle.nfa_core.specs.Nfa.{Automaton, IsWellFormed}
use Rattle.determinize_core.specs.States.{StateValue}
use Rattle.determinize_core.specs.Added.{listed_with, stops}
use Rattle.determinize_core.specs.Costs.{known_ways, free_ways}
use Rattle.determinize_core.specs.Steps.{closed, known_steps, pattern_at, patterns_in, reading, unit_steps}
use Rattle.determinize_core.proofs.CloseAllLemmas.{HasClosed, closes_none, closes_more, closes_all, closes_cost, here_cost, cut_cost}
use Rattle.determinize_core.proofs.MatchLemmas.{listed_from, listed_in_all, listed_of_none, reading_none, goes_on_listed, goes_on_reading}
use Rattle.determinize_core.proofs.MatchLemmas.{ends_listed, ends_reading}
use Rattle.determinize_core.proofs.TargetLemmas.{units_below}

-- where the states that read the unit lead by it
abbrev pub entries : MatchKind → Automaton → Option ℕ → List ℕ → List ℕ
entries kind a u qs = flat_map (unit_steps a u) (reading kind a qs)

-- The loop has taken the first k states of the list, and those of `left` are still to come. From v it has come to w and to what it met.
pub record StepsAt (kind : MatchKind) (a : Automaton) (u : Option ℕ) (looks : ℕ) (qs : List ℕ) (v : StateValue) (before : ℕ)
    (left : List ℕ) (k : ℕ) (w : StateValue) (met : List ℕ) (now : ℕ) : Type 0 where
  pub closes : HasClosed a looks (entries kind a u qs) (entries kind a u left) met before k now
  pub listed : listed_from kind a w.matches left ≡ listed_from kind a v.matches qs
  pub others : w ≡ record v { matches = w.matches }
  pub passed : k + length left ≡ length qs

module _ (kind : MatchKind) (a : Automaton) (u : Option ℕ) (looks : ℕ) (qs : List ℕ) (v : StateValue) (before : ℕ) where
  pub step_begins : (left : List ℕ) → left ≡ qs → (met : List ℕ) → met ≡ [] → StepsAt kind a u looks qs v before left 0 v met before
  step_begins left all met none = subst (λ (l : List ℕ). StepsAt kind a u looks qs v before l 0 v met before) (sym all) (record {
    closes = closes_none a looks (entries kind a u qs) before met none;
    listed = refl;
    others = refl;
    passed = omega arith;
  })

  module _ (left rest : List ℕ) (k q : ℕ) (w x : StateValue) (met : List ℕ) (now : ℕ)
      (at : StepsAt kind a u looks qs v before left k w met now) (is : left ≡ q ∷ rest)
      (reported : x ≡ record w { matches = listed_with (pattern_at a q) w.matches }) where
    listed_now : x.matches ≡ listed_with (pattern_at a q) w.matches
    listed_now = ap (λ (y : StateValue). y.matches) reported

    others_now : x ≡ record v { matches = x.matches }
    others_now = reported ∙ (ap (λ (y : StateValue). record y { matches = listed_with (pattern_at a q) w.matches }) at.others
        ∙ ap (λ (ps : List ℕ). record v { matches = ps }) (sym listed_now))

    one_less : length left ≡ 1 + length rest
    one_less = ap length is ∙ omega arith

    pub step_goes_on : (new : List ℕ) (then : ℕ) (b : Bool) → b ≡ stops kind (pattern_at a q) → b ≡ false →
        Visits nat_eq (known_steps a looks) (unit_steps a u q) met new →
        then ≤ now + 1 + known_ways a looks (drop (length met) new) → StepsAt kind a u looks qs v before rest (k + 1) x new then
    step_goes_on new then b reports none visits cost = let on : stops kind (pattern_at a q) ≡ false = sym reports ∙ none in record {
      closes = closes_more a looks (entries kind a u qs) before (entries kind a u left) met k now at.closes (unit_steps a u q)
          (entries kind a u rest) new then (goes_on_reading kind a left rest q is u on) visits cost;
      listed = goes_on_listed kind a left rest q is w.matches x.matches on listed_now ∙ at.listed;
      others = others_now;
      passed = omega (arith, at.passed, one_less);
    }

    module _ (none : v.matches ≡ []) (b : Bool) (reports : b ≡ stops kind (pattern_at a q)) (some : b ≡ true) where
      last : stops kind (pattern_at a q) ≡ true
      last = sym reports ∙ some

      pub stop_matches : x ≡ record v { matches = patterns_in kind a qs }
      stop_matches =
          others_now ∙ ap (λ (ps : List ℕ). record v { matches = ps })
          (ends_listed kind a left rest q is w.matches x.matches last listed_now
          ∙ (at.listed ∙ listed_in_all kind a qs v.matches none))

      stop_left : entries kind a u left ≡ []
      stop_left = ends_reading kind a left rest q is u last

      pub stop_closed : IsWellFormed a → met ≡ closed a looks (entries kind a u qs)
      stop_closed formed = closes_all a looks (entries kind a u qs) before (entries kind a u left) met k now at.closes formed
          (units_below a formed u (reading kind a qs)) stop_left

      pub stop_cost : IsWellFormed a → now ≤ before + length qs + free_ways a
      stop_cost formed =
          closes_cost a looks (entries kind a u qs) before (entries kind a u left) met k now at.closes formed
          (units_below a formed u (reading kind a qs)) stop_left (length qs) (omega (arith, at.passed))

  module _ (left : List ℕ) (k : ℕ) (w : StateValue) (met : List ℕ) (now : ℕ)
      (at : StepsAt kind a u looks qs v before left k w met now) (none_left : left ≡ []) where
    end_left : entries kind a u left ≡ []
    end_left = ap (entries kind a u) none_left ∙ ap (flat_map (unit_steps a u)) (reading_none kind a)

    pub end_matches : v.matches ≡ [] → w ≡ record v { matches = patterns_in kind a qs }
    end_matches none =
        at.others ∙ ap (λ (ps : List ℕ). record v { matches = ps })
        (sym (listed_of_none kind a w.matches) ∙ (ap (listed_from kind a w.matches) (sym none_left)
        ∙ (at.listed ∙ listed_in_all kind a qs v.matches none)))

    pub end_closed : IsWellFormed a → met ≡ closed a looks (entries kind a u qs)
    end_closed formed = closes_all a looks (entries kind a u qs) before (entries kind a u left) met k now at.closes formed
        (units_below a formed u (reading kind a qs)) end_left

    pub end_cost : IsWellFormed a → now ≤ before + length qs + free_ways a
    end_cost formed =
        closes_cost a looks (entries kind a u qs) before (entries kind a u left) met k now at.closes formed
        (units_below a formed u (reading kind a qs)) end_left (length qs) (omega (arith, at.passed))

  -- what the loop has cost if an allocation fails, or while the states are closed to which the next one leads
  module _ (left : List ℕ) (k : ℕ) (w : StateValue) (met : List ℕ) (now : ℕ)
      (at : StepsAt kind a u looks qs v before left k w met now) where
    pub match_refused : IsDistinct nat_eq met → All (λ q. q < length a.states) met → now ≤ before + length qs + free_ways a
    match_refused once low =
        here_cost a looks (entries kind a u qs) before (entries kind a u left) met k now at.closes once low (length qs)
        (omega (arith, at.passed))

    pub target_refused : (q : ℕ) (rest : List ℕ) → left ≡ q ∷ rest → (new : List ℕ) (then : ℕ) → ((more : List ℕ) × (new ≡ met ++ more)) →
        IsDistinct nat_eq new → All (λ p. p < length a.states) new →
        then ≤ now + 1 + known_ways a looks (drop (length met) new) → then ≤ before + length qs + free_ways a
    target_refused q rest is new then grown once low cost =
        let len : length left ≡ 1 + length rest = ap length is ∙ omega arith in
        cut_cost a looks (entries kind a u qs) before (entries kind a u left) met k now at.closes new
        then (length qs) grown once low cost (omega (arith, at.passed, len))
