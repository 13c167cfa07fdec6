-- The definitions compute: small automata over short haystacks.
use Rattle.std.proofs.Common.{◌≡◌, true, false, [], ◌∷◌, refl}
use Rattle.look_core.specs.Terminators.{Terminator}
use Rattle.look_core.specs.declared.look.Look.TheVariants.{End}
use Rattle.nfa_core.specs.Nfa.{Automaton, byte_range, sparse_node, look_node, union_node, binary_union, capture_node, match_node}
use Rattle.nfa_core.specs.Ways.{ways, ends_from, whole, span}

-- as many of the byte a as there are, with a cycle of transitions that consume nothing
abbrev many : Automaton
many = record {
  states = union_node (1 ∷ 3 ∷ []) ∷ binary_union 0 2 ∷ byte_range 97 97 0 ∷ match_node 5 ∷ [];
  start_anchored = 0;
  start_unanchored = 0;
  start_pattern = 0 ∷ [];
  reverse = false;
}

greedy : (t : Terminator) → ends_from many (whole t (97 ∷ 97 ∷ [])) (0, 0) ≡ (2, 5) ∷ (1, 5) ∷ (0, 5) ∷ []
greedy t = refl

-- no byte after the span is read
in_span : (t : Terminator) → ends_from many (span t (97 ∷ 97 ∷ 97 ∷ []) 1 2) (1, 0) ≡ (2, 5) ∷ (1, 5) ∷ []
in_span t = refl

-- reading from the end to the start, with a look that holds at the start of the haystack
abbrev back : Automaton
back = record {
  states = binary_union 2 1 ∷ sparse_node ((65, 70, 0) ∷ (
    97,
    97,
    0,
  ) ∷ []) ∷ look_node End 3 ∷ capture_node 4 0 0 0 ∷ match_node 1 ∷ [];
  start_anchored = 0;
  start_unanchored = 0;
  start_pattern = 0 ∷ [];
  reverse = true;
}

to_start : (t : Terminator) → ends_from back (whole t (66 ∷ 97 ∷ [])) (2, 0) ≡ (0, 1) ∷ []
to_start t = refl

one_way : (t : Terminator) → ways back (whole t (66 ∷ 97 ∷ [])) (2, 1) ≡ (1, 0) ∷ []
one_way t = refl
