-- The ranges of bytes of sound states, and steps over their lists.
use Rattle.std.proofs.Common.{◌≡◌, ℕ, zero, suc, ◌+◌, ◌<◌, ◌≤◌, false, Bool, List, [], ◌∷◌, length, map, drop, All, get_or, sym, ap}
use Rattle.std.proofs.Common.{◌∙◌, subst, arith}
use Rattle.std.specs.List.{list_any, flat_map, fold}
use Rattle.search_core.specs.Marks.{recorded}
use Rattle.look_core.specs.Terminators.{Terminator}
use Rattle.std.proofs.lemmas.List.{drop_all, get_or-map, length-map}
use Rattle.nfa_core.specs.Nfa.{Node, fail_node}
use Rattle.nfa_core.specs.BuilderStates.{AscendsFrom}
use Rattle.nfa_core.specs.NfaValue.{ranges_apart_by}
use Rattle.nfa_core.specs.Transitions.{range_of}
use Rattle.nfa_core.specs.States.{node_of}
use Rattle.nfa_core.specs.declared.state.State.{State}
use Rattle.nfa_core.specs.declared.transition.Transition.{Transition}

pub ranges_ascend : (transitions : List Transition) (low : ℕ) → AscendsFrom low (map range_of transitions) →
    All (λ t. t.start ≤ t.end) transitions
ranges_ascend [] low ascends k d h = absurd (omega (arith, h))
ranges_ascend (t ∷ rest) low ascends zero d h = ascends.1
ranges_ascend (t ∷ rest) low ascends (suc k) d h = ranges_ascend rest (t.end + 1) ascends.2 k d (omega (arith, h))

-- what holds of all states holds of one that is read
pub of_item : (P : Node → Type 0) (states : List State) (i : ℕ) (s : State) → i < length states → s ≡ get_or states i s →
    All P (map node_of states) → P (node_of s)
of_item P states i s inside is all =
    let low : i < length (map node_of states) = omega (arith, inside, length-map states node_of) in
    subst P (get_or-map node_of states i s fail_node inside ∙ ap node_of (sym is)) (all i fail_node low)

module _ (x : ℕ) (rest old : List ℕ) (e : old ≡ x ∷ rest) where
  -- a loop over names that searches for one with a property, and one that computes a fold
  pub any_next : (test : ℕ → Bool) (all : Bool) → test x ≡ false → list_any test old ≡ all → list_any test rest ≡ all
  any_next test all none same = let f : list_any test (x ∷ rest) ≡ all = (rw e at same) in rw none at f

  pub fold_next : (node : ℕ → Node) (step : ℕ → Node → ℕ) (before now all : ℕ) → now ≡ step before (node x) →
      fold step before (map node old) ≡ all → fold step now (map node rest) ≡ all
  fold_next node step before now all is same = let f : fold step before (map node (x ∷ rest)) ≡ all = (rw e at same) in rw is f

-- a loop that has marked the ranges of all states
pub marked_all : (t : Terminator) (states : List State) (set all : List Bool) (i : ℕ) → length states ≤ i →
    recorded set (flat_map (ranges_apart_by t) (map node_of (drop i states))) ≡ all → set ≡ all
marked_all t states set all i past same =
    let left : recorded set (flat_map (ranges_apart_by t) (map node_of (drop i states))) ≡ set =
    ap (λ l. recorded set (flat_map (ranges_apart_by t) (map node_of l))) (drop_all i states past) in
    sym left ∙ same
