-- What starts and steps of an automaton lead to is made of its states, looks and patterns, and has few bytes.
use Rattle.std.proofs.Common.{◌≡◌, ℕ, ◌<◌, ◌≤◌, ◌||◌, true, false, Bool, List, [], ◌∷◌, length, Option, refl, sym, ap, ◌∙◌, arith, All}
use Rattle.std.proofs.lemmas.Bool.{eqb-true}
use Rattle.std.specs.Bool.{nat_eq}
use Rattle.std.specs.List.{IsDistinct}
use Rattle.look_core.specs.declared.look.Look.{Look}
use Rattle.look_core.specs.Codes.{bit_of}
use Rattle.look_core.specs.LookSets.{has_look, union_of}
use Rattle.look_core.specs.Terminators.{Terminator}
use Rattle.look_core.proofs.ForCallers.{has_look-none, has_look-repr, has_look-union, same_from_bit}
use Rattle.search_types.specs.declared.match_kind.MatchKind.{MatchKind}
use Rattle.nfa_core.specs.Nfa.{Node, byte_range, sparse_node, dense_node, look_node, union_node, binary_union, capture_node, fail_node}
use Rattle.nfa_core.specs.Nfa.{match_node, Automaton, node_at}
use Rattle.nfa_core.specs.NfaValue.{IsSound, look_of, looks_of}
use Rattle.nfa_core.proofs.ForCallers.{looks_any, not_both, has_from_all}
use Rattle.determinize_core.specs.States.{StateValue, dead}
use Rattle.determinize_core.specs.StateBytes.{encoded}
use Rattle.determinize_core.specs.Stepped.{IsStepped, widest}
use Rattle.determinize_core.specs.Steps.{looks_with, closed, ids_before, patterns_in, states_after}
use Rattle.determinize_core.specs.Steps.{step_value, look_behind_of, start_value}
use Rattle.determinize_core.specs.declared.start.Start.{Start}
use Rattle.determinize_core.proofs.CloseAllLemmas.{all_from_below, few_once}
use Rattle.determinize_core.proofs.LengthLemmas.{length-encoded}
use Rattle.determinize_core.proofs.StepLawLemmas.{step_below, step_once, start_below, start_once}
use Rattle.determinize_core.proofs.StepStateLemmas.{patterns_below, step_state, start_state}
use Rattle.determinize_core.proofs.ValueLemmas.{dead_state, nothing_twice}

-- ---- looks

no_look : (l : Look) (node : Node) → has_look 0 l ≡ true → (next : ℕ) × (node ≡ look_node l next)
no_look l node h = not_both (has_look 0 l) _ h (has_look-none l)

-- a state that has a look is a look state
has_its_state : (l : Look) (node : Node) → has_look (look_of node) l ≡ true → (next : ℕ) × (node ≡ look_node l next)
has_its_state l (byte_range low high next) h = no_look l _ h
has_its_state l (sparse_node ranges) h = no_look l _ h
has_its_state l (dense_node names) h = no_look l _ h
has_its_state l (look_node k next) h =
    let e : l ≡ k = same_from_bit l k (eqb-true (bit_of l) (bit_of k) (sym (has_look-repr k l) ∙ h)) in
    (next, ap (λ m. look_node m next) (sym e))
has_its_state l (union_node names) h = no_look l _ h
has_its_state l (binary_union first second) h = no_look l _ h
has_its_state l (capture_node next pattern group slot) h = no_look l _ h
has_its_state l fail_node h = no_look l _ h
has_its_state l (match_node pattern) h = no_look l _ h

module _ (a : Automaton) (l : Look) where
  of_state : (q : ℕ) → has_look (look_of (node_at a q)) l ≡ true → has_look (looks_of a.states) l ≡ true
  of_state q h = let there = has_its_state l (node_at a q) h in (looks_any l a).1 (q, there.0, there.1)

  of_either : (x y : Bool) (Answer : Type 0) → (x || y) ≡ true → (x ≡ true → Answer) → (y ≡ true → Answer) → Answer
  of_either true y Answer e left right = left refl
  of_either false y Answer e left right = right e

  -- looks that states add to those of a set are the automaton's
  looks_of_states : (qs : List ℕ) (s : ℕ) → (has_look s l ≡ true → has_look (looks_of a.states) l ≡ true) →
      has_look (looks_with a s qs) l ≡ true →
      has_look (looks_of a.states) l ≡ true
  looks_of_states [] s old h = old h
  looks_of_states (q ∷ qs) s old h =
      looks_of_states qs (union_of s (look_of (node_at a q)))
      (λ g. of_either (has_look s l) (has_look (look_of (node_at a q)) l) (has_look (looks_of a.states) l ≡ true)
      (sym (has_look-union s (look_of (node_at a q)) l) ∙ g) old (of_state q)) h

looks_from_none : (a : Automaton) (qs : List ℕ) (l : Look) → has_look (looks_with a 0 qs) l ≡ true → has_look (looks_of a.states) l ≡ true
looks_from_none a qs l h = looks_of_states a l qs 0 (λ g. not_both (has_look 0 l) _ g (has_look-none l)) h

-- ---- states

pub step_stepped : (a : Automaton) (t : Terminator) (kind : MatchKind) (v : StateValue) (u : Option ℕ) → IsSound a →
    IsStepped a (step_value a t kind v u)
step_stepped a t kind v u sound = record {
  state = step_state a t kind v u sound;
  below = step_below a t kind v u sound.named;
  once = step_once a t kind v u;
  looks = looks_from_none a (states_after a t kind v u);
  patterns = all_from_below (length a.start_pattern) (patterns_in kind a (ids_before a t v u))
      (patterns_below a sound kind (ids_before a t v u));
}

pub start_stepped : (a : Automaton) (t : Terminator) (s : Start) (q : ℕ) → IsSound a → q < length a.states →
    IsStepped a (start_value a t s q)
start_stepped a t s q sound low = record {
  state = start_state a t s q sound low;
  below = start_below a t s q sound.named low;
  once = start_once a t s q;
  looks = looks_from_none a (closed a (look_behind_of a t s).look_have (q ∷ []));
  patterns = λ k d p. absurd (omega (arith, p));
}

pub dead_stepped : (a : Automaton) → IsStepped a dead
dead_stepped a = record {
  state = dead_state;
  below = λ k d p. absurd (omega (arith, p));
  once = nothing_twice;
  looks = λ l h. not_both (has_look 0 l) _ h (has_look-none l);
  patterns = λ k d p. absurd (omega (arith, p));
}

few : (n : ℕ) (xs : List ℕ) → IsDistinct nat_eq xs → All (λ q. q < n) xs → length xs ≤ n
few n xs once all = few_once n xs once (has_from_all n xs all)

pub stepped_short : (a : Automaton) (v : StateValue) → IsStepped a v → length (encoded v) ≤ widest a
stepped_short a v stepped =
    omega (
      arith,
      length-encoded v,
      few (length a.states) v.ids stepped.once stepped.below,
      few (length a.start_pattern) v.matches stepped.state.once stepped.patterns,
    )
