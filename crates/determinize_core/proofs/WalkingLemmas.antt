-- A sequence of states, one unit after another, and what it costs.
use Rattle.std.proofs.Common.{◌≡◌, ℕ, ◌+◌, ◌<◌, ◌≤◌, List, ◌∷◌, ◌++◌, length, drop, get_or, Option, Some, None, sym, ap, ◌∙◌, []}
use Rattle.std.proofs.Common.{append_assoc, All, subst, ◌*◌, arith, map}
use Rattle.std.proofs.lemmas.List.{length-map}
use Rattle.std.proofs.lemmas.Nat.{row_fits}
use Rattle.std.specs.Bool.{nat_eq}
use Rattle.std.specs.List.{IsDistinct}
use Rattle.look_core.specs.Terminators.{Terminator}
use Rattle.search_types.specs.declared.match_kind.MatchKind.{MatchKind}
use Rattle.nfa_core.specs.Nfa.{Automaton, IsWellFormed}
use Rattle.determinize_core.specs.Costs.{free_ways}
use Rattle.determinize_core.specs.States.{StateValue}
use Rattle.determinize_core.specs.Steps.{step_value, start_value}
use Rattle.determinize_core.specs.declared.start.Start.{Start}
use Rattle.determinize_core.specs.WalkLists.{walked, units_of}
use Rattle.determinize_core.proofs.AddedLemmas.{next_left, past_all}
use Rattle.determinize_core.proofs.StepLawLemmas.{step_below, step_once, start_below, start_once}

-- what one more step has cost, if there are no more than so many
one_more : (old now new step k m : ℕ) → now ≤ old + k * step → new ≤ now + step → k ≤ m → new ≤ old + (m + 1) * step
one_more old now new step k m so_far more within = let fits = row_fits k step (m + 1) step (omega arith) (omega arith) in
    omega (arith, so_far, more, fits)

pub cost_on : (a : Automaton) (old now new k m : ℕ) → now ≤ old + k * (3 * length a.states + 2 * free_ways a) →
    new ≤ now + 3 * length a.states + 2 * free_ways a → k ≤ m → new ≤ old + (m + 1) * (3 * length a.states + 2 * free_ways a)
cost_on a old now new k m so_far more within =
    one_more old now new (3 * length a.states + 2 * free_ways a) k m so_far (omega (arith, more)) within

module _ (a : Automaton) (t : Terminator) (kind : MatchKind) (bytes : List ℕ) (whole items : List StateValue) (v : StateValue) (k : ℕ)
    (so_far : items ++ walked a t kind v (units_of (drop k bytes)) ≡ whole) where
  pub walks_on : (b : ℕ) (u : Option ℕ) (behind : StateValue) (new : List StateValue) → k < length bytes → b ≡ get_or bytes k 0 →
      u ≡ Some b → behind ≡ step_value a t kind v u → new ≡ items ++ v ∷ [] →
      new ++ walked a t kind behind (units_of (drop (k + 1) bytes)) ≡ whole
  walks_on b u behind new within is unit e pushed =
      ap (λ (l : List StateValue). l ++ walked a t kind behind (units_of (drop (k + 1) bytes))) pushed
      ∙ (append_assoc items (v ∷ []) (walked a t kind behind (units_of (drop (k + 1) bytes)))
      ∙ (ap (λ (w : StateValue). items ++ v ∷ walked a t kind w (units_of (drop (k + 1) bytes))) (e ∙ ap (step_value a t kind v) unit)
      ∙ (ap (λ (l : List ℕ). items ++ walked a t kind v (units_of l)) (sym (next_left bytes k b within is)) ∙ so_far)))

  pub walk_ends : (end : StateValue) (new last : List StateValue) → length bytes ≤ k → end ≡ step_value a t kind v None →
      new ≡ items ++ v ∷ [] → last ≡ new ++ end ∷ [] → last ≡ whole
  walk_ends end new last past e pushed again =
      again ∙ (ap (λ (l : List StateValue). l ++ end ∷ []) pushed
      ∙ (append_assoc items (v ∷ []) (end ∷ [])
      ∙ (ap (λ (w : StateValue). items ++ v ∷ w ∷ []) e
      ∙ (ap (λ (l : List ℕ). items ++ walked a t kind v (units_of l)) (sym (past_all bytes k past)) ∙ so_far))))

-- a step may be made from what a step leads to
module _ (a : Automaton) (t : Terminator) (kind : MatchKind) (v : StateValue) (u : Option ℕ) (w : StateValue)
    (is : w ≡ step_value a t kind v u) where
  pub behind_below : IsWellFormed a → All (λ q. q < length a.states) w.ids
  behind_below formed = subst (λ (x : StateValue). All (λ q. q < length a.states) x.ids) (sym is) (step_below a t kind v u formed)

  pub behind_once : IsDistinct nat_eq w.ids
  behind_once = subst (λ (x : StateValue). IsDistinct nat_eq x.ids) (sym is) (step_once a t kind v u)

-- and from what a start leads to
module _ (a : Automaton) (t : Terminator) (s : Start) (q : ℕ) (v w : StateValue) (built : v ≡ start_value a t s q) (is : w ≡ v) where
  pub first_below : IsWellFormed a → q < length a.states → All (λ r. r < length a.states) w.ids
  first_below formed low = subst (λ (x : StateValue). All (λ r. r < length a.states) x.ids) (sym (is ∙ built))
      (start_below a t s q formed low)

  pub first_once : IsDistinct nat_eq w.ids
  first_once = subst (λ (x : StateValue). IsDistinct nat_eq x.ids) (sym (is ∙ built)) (start_once a t s q)

-- if each member of one list is read as the member of another, both lists have one length
pub as_many : {X Y : Type 0} (f : X → Y) (xs : List X) (ys : List Y) → map f xs ≡ ys → length xs ≡ length ys
as_many f xs ys e = sym (length-map xs f) ∙ ap length e
