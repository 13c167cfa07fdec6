-- Sets of looks have the looks of states. Where transitions lead.
use Rattle.std.proofs.Common.{◌≡◌, ℕ, zero, suc, true, false, Bool, List, [], ◌∷◌, map, get_or, refl, sym, ap, ◌∙◌, ◌↔◌, ◌&&◌, ⊎_elim}
use Rattle.std.proofs.lemmas.Bool.{cases_Bool, eqb-true, eq-eqb}
use Rattle.std.specs.Bool.{nat_eq, nat_le}
use Rattle.std.specs.List.{list_any}
use Rattle.std.specs.Option.{option_to_list}
use Rattle.look_core.specs.declared.look.Look.{Look}
use Rattle.look_core.specs.Codes.{repr, bit_of}
use Rattle.look_core.specs.LookSets.{has_look}
use Rattle.look_core.proofs.ForCallers.{has_look-none, has_look-repr, same_from_bit}
use Rattle.nfa_core.specs.Nfa.{Node, byte_range, sparse_node, dense_node, look_node, union_node, binary_union, capture_node, fail_node}
use Rattle.nfa_core.specs.Nfa.{match_node, Automaton, node_at}
use Rattle.nfa_core.specs.NfaValue.{look_of, looks_of, reached_freely, prefix_looks}
use Rattle.nfa_core.specs.Transitions.{sparse_next, dense_next, name_or_none}
use Rattle.nfa_core.specs.Walks.{Has}
use Rattle.nfa_core.specs.Ways.{in_ranges, named}
use Rattle.nfa_core.proofs.MemberLemmas.{not_both}
use Rattle.nfa_core.proofs.MetLemmas.{any_has, has_any, any_map}
use Rattle.nfa_core.proofs.NfaLookLemmas.{has_looks}
use Rattle.nfa_core.proofs.PairLemmas.{names_equal}

module _ (l : Look) where
  abbrev looks_there : Node → Bool
  looks_there node = has_look (look_of node) l

  its_own : has_look (repr l) l ≡ true
  its_own = has_look-repr l l ∙ eq-eqb (bit_of l) (bit_of l) refl

  no_look : (node : Node) → has_look 0 l ≡ true → (next : ℕ) × (node ≡ look_node l next)
  no_look node h = not_both (has_look 0 l) _ h (has_look-none l)

  node_looks : (node : Node) → looks_there node ≡ true → (next : ℕ) × (node ≡ look_node l next)
  node_looks (byte_range low high next) h = no_look _ h
  node_looks (sparse_node ranges) h = no_look _ h
  node_looks (dense_node names) h = no_look _ h
  node_looks (look_node k next) h = let e : l ≡ k = same_from_bit l k (eqb-true (bit_of l) (bit_of k) (sym (has_look-repr k l) ∙ h)) in
      (next, ap (λ m. look_node m next) (sym e))
  node_looks (union_node names) h = no_look _ h
  node_looks (binary_union first second) h = no_look _ h
  node_looks (capture_node next pattern group slot) h = no_look _ h
  node_looks fail_node h = no_look _ h
  node_looks (match_node pattern) h = no_look _ h

  looks_node : (node : Node) (next : ℕ) → node ≡ look_node l next → looks_there node ≡ true
  looks_node node next e = rw e its_own

  found_at : (nodes : List Node) → list_any looks_there nodes ≡ true → (q : ℕ) × (looks_there (get_or nodes q fail_node) ≡ true)
  found_at [] h = cc
  found_at (node ∷ nodes) h = ⊎_elim (λ (t : looks_there node ≡ true). (zero, t))
      (λ (f : looks_there node ≡ false). let g : list_any looks_there nodes ≡ true = (rw f at h) in let r = found_at nodes g in
      (suc r.0, r.1)) (cases_Bool (looks_there node))

  there_at : (nodes : List Node) (q : ℕ) → looks_there (get_or nodes q fail_node) ≡ true → list_any looks_there nodes ≡ true
  there_at [] q h = not_both (has_look 0 l) _ h (has_look-none l)
  there_at (node ∷ nodes) zero h = rw h refl
  there_at (node ∷ nodes) (suc q) h = ⊎_elim (λ (t : looks_there node ≡ true). rw t refl)
      (λ (f : looks_there node ≡ false). rw f (there_at nodes q h)) (cases_Bool (looks_there node))

  pub looks_any : (a : Automaton) → (has_look (looks_of a.states) l ≡ true) ↔ ((q : ℕ) × (next : ℕ) × (node_at a q ≡ look_node l next))
  looks_any a = (
    (λ h. let r = found_at a.states (sym (has_looks a.states l) ∙ h) in let n = node_looks (node_at a r.0) r.1 in (r.0, n.0, n.1)),
    λ (q, next, e). has_looks a.states l ∙ there_at a.states q (looks_node (node_at a q) next e),
  )

  pub looks_prefix : (a : Automaton) → (has_look (prefix_looks a) l ≡ true) ↔
      ((q : ℕ) × (next : ℕ) × Has nat_eq q (reached_freely a) × (node_at a q ≡ look_node l next))
  looks_prefix a =
      let test : ℕ → Bool = λ q. looks_there (node_at a q) in
      let same : has_look (prefix_looks a) l ≡ list_any (λ q. looks_there (node_at a q)) (reached_freely a) =
      has_looks (map (node_at a) (reached_freely a)) l ∙ any_map looks_there (node_at a) (reached_freely a) in (
        (λ h. let r = has_any nat_eq names_equal test (reached_freely a) (sym same ∙ h) in let n = node_looks (node_at a r.0) r.2 in
            (r.0, n.0, r.1, n.1)),
        λ (q, next, there, e). same ∙ any_has nat_eq names_equal test q (reached_freely a) there (looks_node (node_at a q) next e),
      )

pub sparse_leads : (ranges : List (ℕ × ℕ × ℕ)) (b : ℕ) → option_to_list (sparse_next ranges b) ≡ in_ranges ranges b
sparse_leads [] b = refl
sparse_leads ((low, high, next) ∷ others) b = ⊎_elim
    (λ (t : (nat_le low b && nat_le b high) ≡ true). rw t refl)
    (λ (f : (nat_le low b && nat_le b high) ≡ false). rw f (sparse_leads others b)) (cases_Bool (nat_le low b && nat_le b high))

some_name : (n : ℕ) → option_to_list (name_or_none n) ≡ named n
some_name zero = refl
some_name (suc n) = refl

pub dense_leads : (names : List ℕ) (b : ℕ) → option_to_list (dense_next names b) ≡ named (get_or names b 0)
dense_leads names b = some_name (get_or names b 0)
