-- The ends of the automaton's runs are what the builder's table lists and finds.
use Rattle.std.proofs.Common.{◌≡◌, ℕ, suc, ◌*◌, ◌<◌, ◌≤◌, ⊎_elim, List, [], ◌∷◌, length, take, map, sym, ap, arith, subst, Some, None}
use Rattle.std.specs.Prelude.{All}
use Rattle.std.specs.Bool.{nat_eq}
use Rattle.std.proofs.lemmas.List.{get_or_past}
use Rattle.std.proofs.lemmas.List.Elements.{All-get_or, All-map, All-weaker}
use Rattle.std.proofs.lemmas.Bool.Decides.{leb_tells}
use Rattle.nfa_core.specs.Nfa.{Node, fail_node, leads_to, node_at, IsWellFormed}
use Rattle.nfa_core.specs.BuilderStates.{fail_draft, draft_at, Assembly}
use Rattle.nfa_core.specs.CanBuild.{names_of, CanBuild}
use Rattle.nfa_core.specs.Drafted.{drafted, table_ways, table_match}
use Rattle.nfa_core.specs.Places.{same_pair}
use Rattle.nfa_core.specs.Walks.{Has, Lists, HasNoneTwice, distinct}
use Rattle.nfa_core.specs.Runs.{IsChain, last_or}
use Rattle.nfa_core.specs.Ways.{Text, ways, matched, IsPairOf, ends_from}
use Rattle.nfa_core.specs.Renaming.{stands_for, past, kept, new_name, renamed, automaton_of}
use Rattle.nfa_core.proofs.MemberLemmas.{none_in}
use Rattle.nfa_core.proofs.PairLemmas.{pairs_equal}
use Rattle.nfa_core.proofs.AutomatonLemmas.{finite_automaton, match_ends}
use Rattle.nfa_core.proofs.EndsLemmas.{stack_lists, listed_run, chain_listed}
use Rattle.nfa_core.proofs.RenamingLemmas.{past_stands, past_inside, past_twice}
use Rattle.nfa_core.proofs.RenamingNodes.{leads_renamed}
use Rattle.nfa_core.proofs.RenamingAutomaton.{state_inside, state_renamed, state_named}
use Rattle.nfa_core.proofs.RenamingOnce.{once_if_listed}
use Rattle.nfa_core.proofs.RenamingRuns.{Every, every_of_all, led_names, same_lists, chains_forth, chains_back}

module _ (b : Assembly) (x y : ℕ) (can : CanBuild b x y) where
  abbrev size : ℕ
  size = length (automaton_of b x y).states

  -- the new name of each state is that of a state
  pub name_inside : (q : ℕ) → q < length b.drafts → new_name b.drafts q < size
  name_inside q inside =
      let p : ℕ = past b.drafts q in
      let l : new_name b.drafts p < size = state_inside b x y p (past_inside b.drafts can.named q inside)
      (past_stands b.drafts can.no_loop q inside) in
      let e : new_name b.drafts p ≡ new_name b.drafts q = ap (λ k. length (kept (take k b.drafts)))
      (past_twice b.drafts can.no_loop q inside) in
      omega (arith, l, e)

  led_inside : (q : ℕ) → q < length b.drafts → stands_for (draft_at b.drafts q) ≡ None →
      Every (λ r. r < size) (leads_to (renamed (new_name b.drafts) b.groups (draft_at b.drafts q)))
  led_inside q inside e =
      let named : All (λ r. r < length b.drafts) (names_of (draft_at b.drafts q)) =
      All-get_or (λ draft. All (λ r. r < length b.drafts) (names_of draft)) b.drafts q fail_draft inside can.named in
      let old : All (λ r. r < length b.drafts) (leads_to (drafted (draft_at b.drafts q))) =
      led_names (λ r. r < length b.drafts) (draft_at b.drafts q) named in
      let new : All (λ r. new_name b.drafts r < size) (leads_to (drafted (draft_at b.drafts q))) =
      All-weaker (λ r. r < length b.drafts) (λ r. new_name b.drafts r < size) name_inside (leads_to (drafted (draft_at b.drafts q))) old in
      let E : List ℕ → Type 0 = λ l. Every (λ r. r < size) l in
      subst E (sym (leads_renamed (new_name b.drafts) b.groups (draft_at b.drafts q) e))
      (every_of_all (λ r. r < size) (map (new_name b.drafts) (leads_to (drafted (draft_at b.drafts q))))
      (All-map (λ r. r < size) (new_name b.drafts) (leads_to (drafted (draft_at b.drafts q))) new))

  node_inside : (k : ℕ) → k < size → Every (λ r. r < size) (leads_to (node_at (automaton_of b x y) k))
  node_inside k inside =
      let s = state_named b x y k inside in
      let E : ℕ → Type 0 = λ j. Every (λ r. r < size) (leads_to (node_at (automaton_of b x y) j)) in
      let N : Node → Type 0 = λ node. Every (λ r. r < size) (leads_to node) in
      subst E s.3 (subst N (sym (state_renamed b x y s.0 s.1 s.2)) (led_inside s.0 s.1 s.2))

  pub is_well_formed : IsWellFormed (automaton_of b x y)
  is_well_formed k r h = ⊎_elim
      (λ reported. let none : leads_to (node_at (automaton_of b x y) k) ≡ [] =
      ap leads_to (get_or_past (automaton_of b x y).states k fail_node reported.1) in
      let H : List ℕ → Type 0 = λ l. Has nat_eq r l in none_in nat_eq r _ (subst H none h))
      (λ reported. node_inside k reported.1 r h) (leb_tells size k)

  module _ (t : Text) (q i : ℕ) (inside : q < length b.drafts) (place : i ≤ t.end) where
    here : IsPairOf (automaton_of b x y) t (i, new_name b.drafts q)
    here = (place, name_inside q inside)

    pub ends_listed : (l : List (ℕ × ℕ)) → Lists (table_ways b.reverse t (draft_at b.drafts)) (table_match (draft_at b.drafts)) ((
      i,
      q,
    ) ∷ []) l →
        ends_from (automaton_of b x y) t (i, new_name b.drafts q) ≡ distinct same_pair l
    ends_listed l walk = stack_lists (automaton_of b x y) t (i, new_name b.drafts q) is_well_formed here l
        (same_lists b x y can t q i l inside walk)

    pub ends_found : (e : ℕ × ℕ) → Has same_pair e (ends_from (automaton_of b x y) t (i, new_name b.drafts q)) →
        (r : List (ℕ × ℕ)) × IsChain same_pair (table_ways b.reverse t (draft_at b.drafts)) (i, q) r ×
        (table_match (draft_at b.drafts) (last_or (i, q) r) ≡ Some e)
    ends_found e h =
        let run = listed_run (automaton_of b x y) t (i, new_name b.drafts q) is_well_formed here e h in
        chains_back b x y can t q i run.0 e inside run.1.0 run.1.2

    pub found_end : (e : ℕ × ℕ) (r : List (ℕ × ℕ)) → IsChain same_pair (table_ways b.reverse t (draft_at b.drafts)) (i, q) r →
        table_match (draft_at b.drafts) (last_or (i, q) r) ≡ Some e → Has same_pair e (ends_from (automaton_of b x y) t (
          i,
          new_name b.drafts q,
        ))
    found_end e r chain is =
        let s = chains_forth b x y can t q i r e inside chain is in
        chain_listed (automaton_of b x y) t (i, new_name b.drafts q) is_well_formed here e s.0 s.1 s.2

    pub chains_once : (l : List (ℕ × ℕ)) → Lists (table_ways b.reverse t (draft_at b.drafts)) (table_match (draft_at b.drafts)) ((
      i,
      q,
    ) ∷ []) l →
        (r : List (ℕ × ℕ)) → IsChain same_pair (ways (automaton_of b x y) t) (i, new_name b.drafts q) r →
        HasNoneTwice same_pair ((i, new_name b.drafts q) ∷ r)
    chains_once l walk = once_if_listed same_pair pairs_equal (ways (automaton_of b x y) t) (matched (automaton_of b x y))
        (match_ends (automaton_of b x y) t)
        (IsPairOf (automaton_of b x y) t) (suc t.end * length (automaton_of b x y).states)
        (finite_automaton (automaton_of b x y) t is_well_formed)
        (i, new_name b.drafts q) [] l (same_lists b x y can t q i l inside walk)
