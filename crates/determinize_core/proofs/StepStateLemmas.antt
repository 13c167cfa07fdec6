-- What steps lead to satisfies what holds of every state.
use Rattle.std.proofs.Common.{ℕ, ◌<◌, ◌≤◌, ◌+◌, ◌==◌, ◌&&◌, true, false, Bool, List, [], ◌∷◌, length, Option, Some, None}
use Rattle.std.proofs.Common.{refl, arith, cond, All, option_to_list}
use Rattle.std.specs.Bool.{nat_eq}
use Rattle.search_core.specs.Index.{greatest_index}
use Rattle.look_core.specs.LookSets.{IsLookSet, union_of}
use Rattle.look_core.specs.Looks.{byte_side, is_no_word, is_line_end, is_byte}
use Rattle.look_core.specs.Terminators.{Terminator}
use Rattle.look_core.proofs.ForCallers.{union-lt, repr-lt}
use Rattle.search_types.specs.declared.match_kind.MatchKind.{MatchKind}
use Rattle.search_types.specs.declared.match_kind.MatchKind.TheVariants.{All as AllMatches, LeftmostFirst}
use Rattle.nfa_core.specs.Walks.{HasNoneTwice}
use Rattle.nfa_core.specs.Places.{first}
use Rattle.nfa_core.specs.Runs.{answers}
use Rattle.nfa_core.specs.Nfa.{Node, byte_range, sparse_node, dense_node, look_node, union_node, binary_union, capture_node, fail_node}
use Rattle.nfa_core.specs.Nfa.{match_node, Automaton, node_at}
use Rattle.nfa_core.specs.NfaValue.{IsSound, IsNodeOf, look_of}
use Rattle.nfa_core.specs.Reached.{AreBelow}
use Rattle.nfa_core.proofs.ForCallers.{none_in, has_first, of_flat_map, join_once, of_join, names_equal, sound_at}
use Rattle.determinize_core.specs.States.{StateValue, IsState, dead}
use Rattle.determinize_core.specs.LookBehind.{with_look_behind}
use Rattle.determinize_core.specs.Steps.{looks_with, have_if, closed, known_after, ids_before, families, second_half, pattern_of}
use Rattle.determinize_core.specs.Steps.{pattern_at, patterns_in, states_after, step_value, look_behind_of, start_value}
use Rattle.determinize_core.specs.declared.start.Start.{Start}
use Rattle.determinize_core.specs.declared.lookbehind.Families.{Families}
use Rattle.determinize_core.proofs.CloseAllLemmas.{distinct_from_once, all_from_below}
use Rattle.determinize_core.proofs.KnownStateLemmas.{known-lt, starts_of-lt, state_with_known}
use Rattle.determinize_core.proofs.StartingLemmas.{one_inside}
use Rattle.determinize_core.proofs.StepLawLemmas.{step_below, start_below}
use Rattle.determinize_core.proofs.ValueLemmas.{dead_state}

-- ---- looks

look_of-lt : (node : Node) → look_of node < 262144
look_of-lt (look_node l next) = repr-lt l
look_of-lt (byte_range low high next) = omega arith
look_of-lt (sparse_node ranges) = omega arith
look_of-lt (dense_node names) = omega arith
look_of-lt (union_node names) = omega arith
look_of-lt (binary_union left right) = omega arith
look_of-lt (capture_node next pattern group slot) = omega arith
look_of-lt fail_node = omega arith
look_of-lt (match_node pattern) = omega arith

looks_with-lt : (a : Automaton) (looks : ℕ) (qs : List ℕ) → IsLookSet looks → IsLookSet (looks_with a looks qs)
looks_with-lt a looks [] within = within
looks_with-lt a looks (q ∷ qs) within = looks_with-lt a (union_of looks (look_of (node_at a q))) qs
    (union-lt looks (look_of (node_at a q)) within (look_of-lt (node_at a q)))

-- the families whose starts are known after a unit
abbrev known_at : Families → Bool → Terminator → Option ℕ → Families
known_at f reverse t u = record {
  haystack = false;
  lines = f.lines && is_line_end t u;
  crlf = f.crlf && is_byte (second_half reverse) u;
  words = f.words && is_no_word (byte_side u);
}

have_if-lt : (need have : ℕ) → IsLookSet have → IsLookSet (have_if need have)
have_if-lt need have within = by_test (need == 0)
  where
    by_test : (b : Bool) → cond b 0 have < 262144
    by_test true = omega arith
    by_test false = within

-- ---- patterns

pattern_below : (patterns : ℕ) (node : Node) → IsNodeOf patterns node → AreBelow patterns (option_to_list (pattern_of node))
pattern_below patterns (match_node pattern) of = one_inside patterns pattern of
pattern_below patterns (byte_range low high next) of = λ p h. none_in nat_eq p _ h
pattern_below patterns (sparse_node ranges) of = λ p h. none_in nat_eq p _ h
pattern_below patterns (dense_node names) of = λ p h. none_in nat_eq p _ h
pattern_below patterns (look_node l next) of = λ p h. none_in nat_eq p _ h
pattern_below patterns (union_node names) of = λ p h. none_in nat_eq p _ h
pattern_below patterns (binary_union left right) of = λ p h. none_in nat_eq p _ h
pattern_below patterns (capture_node next pattern group slot) of = λ p h. none_in nat_eq p _ h
pattern_below patterns fail_node of = λ p h. none_in nat_eq p _ h

first_below : (n : ℕ) (xs : List ℕ) → AreBelow n xs → AreBelow n (option_to_list (first xs))
first_below n [] below = below
first_below n (x ∷ xs) below = one_inside n x (below x (has_first nat_eq names_equal x xs))

one_once : (o : Option ℕ) → HasNoneTwice nat_eq (option_to_list o)
one_once None = tt
one_once (Some p) = (refl, tt)

module _ (a : Automaton) where
  answers_below : IsSound a → (qs : List ℕ) → AreBelow (length a.start_pattern) (answers (pattern_at a) qs)
  answers_below sound qs =
      of_flat_map nat_eq names_equal nat_eq (λ q. option_to_list (pattern_at a q)) (λ p. p < length a.start_pattern) qs
      (λ q _h. pattern_below (length a.start_pattern) (node_at a q) (sound_at (length a.start_pattern) a.states q sound.nodes))

  pub patterns_below : IsSound a → (kind : MatchKind) (qs : List ℕ) → AreBelow (length a.start_pattern) (patterns_in kind a qs)
  patterns_below sound AllMatches qs = of_join nat_eq names_equal (λ p. p < length a.start_pattern) [] (answers (pattern_at a) qs)
      (λ p h. none_in nat_eq p _ h) (answers_below sound qs)
  patterns_below sound LeftmostFirst qs = first_below (length a.start_pattern) (answers (pattern_at a) qs) (answers_below sound qs)

  patterns_once : (kind : MatchKind) (qs : List ℕ) → HasNoneTwice nat_eq (patterns_in kind a qs)
  patterns_once AllMatches qs = join_once nat_eq names_equal [] (answers (pattern_at a) qs) tt
  patterns_once LeftmostFirst qs = one_once (first (answers (pattern_at a) qs))

-- ---- states

at_most : (n : ℕ) (xs : List ℕ) → n ≤ greatest_index + 1 → All (λ q. q < n) xs → All (λ q. q ≤ greatest_index) xs
at_most n xs few all k d p = let less = all k d p in omega (arith, few, less)

pub step_state : (a : Automaton) (t : Terminator) (kind : MatchKind) (v : StateValue) (u : Option ℕ) → IsSound a →
    IsState (step_value a t kind v u)
step_state a t kind v u sound = record {
  have = have_if-lt (looks_with a 0 (states_after a t kind v u)) (known_after (families a) a.reverse t u)
      (starts_of-lt (known_at (families a) a.reverse t u));
  need = looks_with-lt a 0 (states_after a t kind v u) (omega arith);
  patterns = at_most (length a.start_pattern) (patterns_in kind a (ids_before a t v u)) sound.patterns_numbered
      (all_from_below (length a.start_pattern) (patterns_in kind a (ids_before a t v u))
      (patterns_below a sound kind (ids_before a t v u)));
  once = distinct_from_once (patterns_in kind a (ids_before a t v u)) (patterns_once a kind (ids_before a t v u));
  states = at_most (length a.states) (step_value a t kind v u).ids sound.states_numbered (step_below a t kind v u sound.named);
}

pub start_state : (a : Automaton) (t : Terminator) (s : Start) (q : ℕ) → IsSound a → q < length a.states → IsState (start_value a t s q)
start_state a t s q sound low =
    let begun : IsState (with_look_behind (look_behind_of a t s) dead) = state_with_known (look_behind_of a t s) dead
    (known-lt (families a) a.reverse t s) dead_state in
    record {
      have = have_if-lt (looks_with a 0 (closed a (look_behind_of a t s).look_have (q ∷ [])))
          (with_look_behind (look_behind_of a t s) dead).look_have begun.have;
      need = looks_with-lt a 0 (closed a (look_behind_of a t s).look_have (q ∷ [])) (omega arith);
      patterns = begun.patterns;
      once = begun.once;
      states = at_most (length a.states) (start_value a t s q).ids sound.states_numbered (start_below a t s q sound.named low);
    }
