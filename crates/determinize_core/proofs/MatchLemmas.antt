-- The patterns that match in states, listed one after another, and the states that read the unit.
use Rattle.std.proofs.Common.{◌≡◌, ℕ, true, false, List, [], ◌∷◌, ◌++◌, Option, Some, None, refl, sym, ap, ◌∙◌, ⊎_elim, option_to_list}
use Rattle.std.proofs.lemmas.Bool.{cases_Bool}
use Rattle.std.specs.Bool.{nat_eq}
use Rattle.std.specs.List.{flat_map}
use Rattle.search_types.specs.declared.match_kind.MatchKind.{MatchKind}
use Rattle.search_types.specs.declared.match_kind.MatchKind.TheVariants.{All as AllMatches, LeftmostFirst}
use Rattle.nfa_core.specs.Walks.{has, join}
use Rattle.nfa_core.specs.Runs.{answers}
use Rattle.nfa_core.specs.Places.{before_answer, unless_answered, first}
use Rattle.nfa_core.specs.Nfa.{Automaton}
use Rattle.determinize_core.specs.Added.{listed_with, stops}
use Rattle.determinize_core.specs.Steps.{pattern_at, patterns_in, reading, unit_steps}

-- the answers that a kind of match lists
abbrev pub listed_of : MatchKind → List ℕ → List ℕ
listed_of AllMatches ps = ps
listed_of LeftmostFirst ps = option_to_list (first ps)

-- what is listed in the end after these patterns
abbrev pub listed_from : MatchKind → Automaton → List ℕ → List ℕ → List ℕ
listed_from kind a ps qs = join nat_eq ps (listed_of kind (answers (pattern_at a) qs))

one_alone : (o : Option ℕ) → join nat_eq [] (option_to_list o) ≡ option_to_list o
one_alone None = refl
one_alone (Some p) = refl

pub listed_in_all : (kind : MatchKind) (a : Automaton) (qs ps : List ℕ) → ps ≡ [] → listed_from kind a ps qs ≡ patterns_in kind a qs
listed_in_all AllMatches a qs ps e = ap (λ (l : List ℕ). join nat_eq l (answers (pattern_at a) qs)) e
listed_in_all LeftmostFirst a qs ps e = ap (λ (l : List ℕ). join nat_eq l (option_to_list (first (answers (pattern_at a) qs)))) e
    ∙ one_alone (first (answers (pattern_at a) qs))

pub listed_of_none : (kind : MatchKind) (a : Automaton) (ps : List ℕ) → listed_from kind a ps [] ≡ ps
listed_of_none AllMatches a ps = refl
listed_of_none LeftmostFirst a ps = refl

pub reading_none : (kind : MatchKind) (a : Automaton) → reading kind a [] ≡ []
reading_none AllMatches a = refl
reading_none LeftmostFirst a = refl

joined_by : (p : ℕ) (ps rest : List ℕ) → join nat_eq ps (p ∷ rest) ≡ join nat_eq (listed_with (Some p) ps) rest
joined_by p ps rest = ⊎_elim (λ (e : has nat_eq p ps ≡ true). rw e refl) (λ (e : has nat_eq p ps ≡ false). rw e refl)
    (cases_Bool (has nat_eq p ps))

-- the loop goes on after a state
going_with : (kind : MatchKind) (o : Option ℕ) (ps rest : List ℕ) → stops kind o ≡ false →
    join nat_eq ps (listed_of kind (option_to_list o ++ rest)) ≡ join nat_eq (listed_with o ps) (listed_of kind rest)
going_with AllMatches None ps rest on = refl
going_with AllMatches (Some p) ps rest on = joined_by p ps rest
going_with LeftmostFirst None ps rest on = refl
going_with LeftmostFirst (Some p) ps rest on = let never : true ≡ false = on in cc

reading_with : (kind : MatchKind) (a : Automaton) (q : ℕ) (qs : List ℕ) (o : Option ℕ) → stops kind o ≡ false → pattern_at a q ≡ o →
    reading kind a (q ∷ qs) ≡ q ∷ reading kind a qs
reading_with AllMatches a q qs o on is = refl
reading_with LeftmostFirst a q qs None on is = ap (λ (p : Option ℕ). unless_answered p (q ∷ before_answer (pattern_at a) qs)) is
reading_with LeftmostFirst a q qs (Some p) on is = let never : true ≡ false = on in cc

-- or the loop ends there
ending_with : (kind : MatchKind) (o : Option ℕ) (ps rest : List ℕ) → stops kind o ≡ true →
    join nat_eq ps (listed_of kind (option_to_list o ++ rest)) ≡ listed_with o ps
ending_with AllMatches o ps rest on = let never : false ≡ true = on in cc
ending_with LeftmostFirst None ps rest on = let never : false ≡ true = on in cc
ending_with LeftmostFirst (Some p) ps rest on = refl

reading_ends : (kind : MatchKind) (a : Automaton) (q : ℕ) (qs : List ℕ) (o : Option ℕ) → stops kind o ≡ true → pattern_at a q ≡ o →
    reading kind a (q ∷ qs) ≡ []
reading_ends AllMatches a q qs o on is = let never : false ≡ true = on in cc
reading_ends LeftmostFirst a q qs None on is = let never : false ≡ true = on in cc
reading_ends LeftmostFirst a q qs (Some p) on is = ap (λ (r : Option ℕ). unless_answered r (q ∷ before_answer (pattern_at a) qs)) is

module _ (kind : MatchKind) (a : Automaton) (left rest : List ℕ) (q : ℕ) (is : left ≡ q ∷ rest) where
  pub goes_on_listed : (ps new : List ℕ) → stops kind (pattern_at a q) ≡ false → new ≡ listed_with (pattern_at a q) ps →
      listed_from kind a new rest ≡ listed_from kind a ps left
  goes_on_listed ps new on e =
      ap (λ (l : List ℕ). listed_from kind a l rest) e ∙ (sym (going_with kind (pattern_at a q) ps (answers (pattern_at a) rest) on)
      ∙ ap (listed_from kind a ps) (sym is))

  pub goes_on_reading : (u : Option ℕ) → stops kind (pattern_at a q) ≡ false →
      flat_map (unit_steps a u) (reading kind a left) ≡ unit_steps a u q ++ flat_map (unit_steps a u) (reading kind a rest)
  goes_on_reading u on = ap (λ (l : List ℕ). flat_map (unit_steps a u) (reading kind a l)) is
      ∙ ap (flat_map (unit_steps a u)) (reading_with kind a q rest (pattern_at a q) on refl)

  pub ends_listed : (ps new : List ℕ) → stops kind (pattern_at a q) ≡ true → new ≡ listed_with (pattern_at a q) ps →
      new ≡ listed_from kind a ps left
  ends_listed ps new on e = e ∙ (sym (ending_with kind (pattern_at a q) ps (answers (pattern_at a) rest) on)
      ∙ ap (listed_from kind a ps) (sym is))

  pub ends_reading : (u : Option ℕ) → stops kind (pattern_at a q) ≡ true → flat_map (unit_steps a u) (reading kind a left) ≡ []
  ends_reading u on = ap (λ (l : List ℕ). flat_map (unit_steps a u) (reading kind a l)) is
      ∙ ap (flat_map (unit_steps a u)) (reading_ends kind a q rest (pattern_at a q) on refl)
