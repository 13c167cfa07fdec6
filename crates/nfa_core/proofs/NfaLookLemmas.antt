-- The looks of states, member by member.
use Rattle.std.proofs.Common.{◌≡◌, ℕ, Bool, List, [], ◌∷◌, map, sym, ap, ◌∙◌, ◌||◌, arith}
use Rattle.std.specs.List.{list_any, fold}
use Rattle.std.specs.Bool.{nat_eq}
use Rattle.look_core.specs.declared.look.Look.{Look}
use Rattle.look_core.specs.LookSets.{IsLookSet, has_look, union_of}
use Rattle.look_core.proofs.ForCallers.{has_look-union, has_look-none, repr-lt, same_members, union-lt}
use Rattle.nfa_core.specs.Nfa.{Node, byte_range, sparse_node, dense_node, look_node, union_node, binary_union, capture_node, fail_node}
use Rattle.nfa_core.specs.Nfa.{match_node, Automaton, node_at}
use Rattle.nfa_core.specs.NfaValue.{look_of, looks_of, is_match, reached_freely, has_empty, prefix_looks}
use Rattle.nfa_core.specs.Walks.{distinct}
use Rattle.nfa_core.proofs.MetLemmas.{any_distinct, any_map}
use Rattle.nfa_core.proofs.PairLemmas.{names_equal}
use Rattle.std.proofs.Math.Bool.{or_assoc, or-false}

abbrev joined : ℕ → List Node → ℕ
joined s nodes = fold (λ t node. union_of t (look_of node)) s nodes

pub look_in : (node : Node) → IsLookSet (look_of node)
look_in (byte_range low high next) = omega arith
look_in (sparse_node ranges) = omega arith
look_in (dense_node names) = omega arith
look_in (look_node l next) = repr-lt l
look_in (union_node names) = omega arith
look_in (binary_union first second) = omega arith
look_in (capture_node next pattern group slot) = omega arith
look_in fail_node = omega arith
look_in (match_node pattern) = omega arith

joined_in : (nodes : List Node) (s : ℕ) → IsLookSet s → IsLookSet (joined s nodes)
joined_in [] s h = h
joined_in (node ∷ nodes) s h = joined_in nodes (union_of s (look_of node)) (union-lt s (look_of node) h (look_in node))

has_joined : (nodes : List Node) (s : ℕ) (l : Look) → has_look (joined s nodes) l ≡ (has_look s l
    || list_any (λ node. has_look (look_of node) l) nodes)
has_joined [] s l = sym (or-false (has_look s l))
has_joined (node ∷ nodes) s l = has_joined nodes (union_of s (look_of node)) l
    ∙ ap (λ b. b || list_any (λ n. has_look (look_of n) l) nodes) (has_look-union s (look_of node) l)
    ∙ or_assoc (has_look s l) (has_look (look_of node) l) (list_any (λ n. has_look (look_of n) l) nodes)

pub has_looks : (nodes : List Node) (l : Look) → has_look (looks_of nodes) l ≡ list_any (λ node. has_look (look_of node) l) nodes
has_looks nodes l = has_joined nodes 0 l ∙ ap (λ b. b || list_any (λ node. has_look (look_of node) l) nodes) (has_look-none l)

pub looks_in : (nodes : List Node) → IsLookSet (looks_of nodes)
looks_in nodes = joined_in nodes 0 (omega arith)

-- order and repeats of the states make no difference
pub looks_distinct : (f : ℕ → Node) (xs : List ℕ) → looks_of (map f (distinct nat_eq xs)) ≡ looks_of (map f xs)
looks_distinct f xs = same_members (looks_of (map f (distinct nat_eq xs))) (looks_of (map f xs)) (looks_in (map f (distinct nat_eq xs)))
    (looks_in (map f xs))
    (λ l. let test : Node → Bool = λ node. has_look (look_of node) l in
    has_looks (map f (distinct nat_eq xs)) l ∙ any_map test f (distinct nat_eq xs) ∙ any_distinct nat_eq names_equal (λ x. test (f x)) xs
    ∙ sym (any_map test f xs) ∙ sym (has_looks (map f xs) l))

-- what an NFA stores about the states that its patterns reach, from a list of these without repeats
pub empty_met : (a : Automaton) (met : List ℕ) → met ≡ distinct nat_eq (reached_freely a) →
    list_any (λ q. is_match (node_at a q)) met ≡ has_empty a
empty_met a met e = rw e (any_distinct nat_eq names_equal (λ q. is_match (node_at a q)) (reached_freely a))

pub prefix_met : (a : Automaton) (met : List ℕ) → met ≡ distinct nat_eq (reached_freely a) → looks_of (map (node_at a) met) ≡ prefix_looks a
prefix_met a met e = rw e (looks_distinct (node_at a) (reached_freely a))
