-- Where no match is reached without a byte, no run ends at the offset at which it begins.
use Rattle.std.proofs.Common.{◌≡◌, ℕ, ◌≤◌, true, false, Bool, if◌then◌else◌, List, [], ◌∷◌, map, refl, sym, ap, ◌∙◌, ⊎_elim, Option, Some}
use Rattle.std.proofs.Common.{None, subst, arith}
use Rattle.std.specs.Bool.{nat_eq}
use Rattle.look_core.specs.declared.look.Look.{Look}
use Rattle.nfa_core.specs.Walks.{Has}
use Rattle.nfa_core.specs.Runs.{IsChain, last_or}
use Rattle.nfa_core.specs.Places.{same_pair}
use Rattle.nfa_core.specs.Nfa.{Node, byte_range, sparse_node, dense_node, look_node, union_node, binary_union, capture_node, fail_node}
use Rattle.nfa_core.specs.Nfa.{match_node, Automaton, node_at}
use Rattle.nfa_core.specs.NfaValue.{IsSound, free_steps, reached_freely, is_match, has_empty}
use Rattle.nfa_core.specs.Ways.{Text, reads, is_satisfied, on_read, on_nothing, offset_after, ways, IsPairOf, ends_from}
use Rattle.nfa_core.proofs.MemberLemmas.{none_in, not_both, has_append}
use Rattle.nfa_core.proofs.PairLemmas.{names_equal, from_map}
use Rattle.nfa_core.proofs.AutomatonLemmas.{IsOutsideOf, reads_beside, match_is}
use Rattle.nfa_core.proofs.EndsLemmas.{listed_run}
use Rattle.nfa_core.proofs.MetLemmas.{any_has}
use Rattle.nfa_core.proofs.ReachLawLemmas.{comes}
use Rattle.nfa_core.proofs.BehindLemmas.{match_place}

of_test : (c : Bool) (next r : ℕ) → Has nat_eq r (if c then next ∷ [] else []) → Has nat_eq r (next ∷ [])
of_test true next r h = h
of_test false next r h = none_in nat_eq r _ h

-- with looks that hold, a state leads no further than with all looks taken to hold
free_way : (node : Node) (passed : Look → Bool) (r : ℕ) → Has nat_eq r (on_nothing node passed) → Has nat_eq r (on_nothing node (λ l. true))
free_way (byte_range low high next) passed r h = h
free_way (sparse_node ranges) passed r h = h
free_way (dense_node names) passed r h = h
free_way (look_node l next) passed r h = of_test (passed l) next r h
free_way (union_node names) passed r h = h
free_way (binary_union first second) passed r h = h
free_way (capture_node next pattern group slot) passed r h = h
free_way fail_node passed r h = h
free_way (match_node pattern) passed r h = h

-- the offset j is i, or comes after it in the direction of the search, forward or in reverse
abbrev IsAfterByte : Bool → ℕ → ℕ → Type 0
IsAfterByte false i j = i ≤ j
IsAfterByte true i j = j ≤ i

itself : (is_reverse : Bool) (i : ℕ) → IsAfterByte is_reverse i i
itself false i = omega arith
itself true i = omega arith

along : (is_reverse : Bool) (i j k : ℕ) → IsAfterByte is_reverse i j → IsAfterByte is_reverse j k → IsAfterByte is_reverse i k
along false i j k a b = omega (arith, a, b)
along true i j k a b = omega (arith, a, b)

read_behind : (is_reverse : Bool) (t : Text) (i : ℕ) (read : Option (ℕ × ℕ)) → IsOutsideOf is_reverse t i read →
    IsAfterByte is_reverse i (offset_after i read)
read_behind is_reverse t i None beside = itself is_reverse i
read_behind false t i (Some (b, j)) beside = omega (arith, beside.0)
read_behind true t i (Some (b, j)) beside = omega (arith, beside.0)

-- after a byte is read, the search does not return to the offset
read_leaves : (is_reverse : Bool) (t : Text) (node : Node) (i r k : ℕ) (read : Option (ℕ × ℕ)) → IsOutsideOf is_reverse t i read →
    Has nat_eq r (on_read node read) →
    IsAfterByte is_reverse (offset_after i read) k → k ≡ i → ⊥
read_leaves is_reverse t node i r k None beside h behind e = none_in nat_eq r _ h
read_leaves false t node i r k (Some (b, j)) beside h behind e = omega (arith, beside.0, behind, e)
read_leaves true t node i r k (Some (b, j)) beside h behind e = omega (arith, beside.0, behind, e)

module _ (a : Automaton) (t : Text) where
  abbrev Way : ℕ × ℕ → ℕ × ℕ → Type 0
  Way p y = Has same_pair y (ways a t p)

  way_parts : (p y : ℕ × ℕ) → Way p y → (P : Type 0) →
      ((r : ℕ) → Has nat_eq r (on_read (node_at a p.1) (reads a.reverse t p.0)) → y ≡ (offset_after p.0 (reads a.reverse t p.0), r) → P) →
      ((r : ℕ) → Has nat_eq r (free_steps a p.1) → y ≡ (p.0, r) → P) → P
  way_parts p y way P by_read by_nothing =
      let node : Node = node_at a p.1 in
      let j : ℕ = offset_after p.0 (reads a.reverse t p.0) in ⊎_elim
      (λ h. let o = from_map j y (on_read node (reads a.reverse t p.0)) h in by_read o.0 o.1 o.2)
      (λ h. let o = from_map p.0 y (on_nothing node (λ l. is_satisfied a.reverse t l p.0)) h in
      by_nothing o.0 (free_way node (λ l. is_satisfied a.reverse t l p.0) o.0 o.1) o.2)
      (has_append same_pair y (map (λ q. (j, q)) (on_read node (reads a.reverse t p.0)))
      (map (λ q. (p.0, q)) (on_nothing node (λ l. is_satisfied a.reverse t l p.0))) way)

  way_behind : (p y : ℕ × ℕ) → Way p y → IsAfterByte a.reverse p.0 y.0
  way_behind p y way =
      let P : ℕ × ℕ → Type 0 = λ z. IsAfterByte a.reverse p.0 z.0 in
      way_parts p y way (P y)
      (λ r h e. subst P (sym e) (read_behind a.reverse t p.0 (reads a.reverse t p.0) (reads_beside a.reverse t p.0)))
      (λ r h e. subst P (sym e) (itself a.reverse p.0))

  chain_behind : (r : List (ℕ × ℕ)) (p : ℕ × ℕ) → IsChain same_pair (ways a t) p r → IsAfterByte a.reverse p.0 (last_or p r).0
  chain_behind [] p chain = itself a.reverse p.0
  chain_behind (y ∷ r) p chain = along a.reverse p.0 y.0 (last_or y r).0 (way_behind p y chain.0) (chain_behind r y chain.1)

  -- free steps lead to the end of a chain that stays at its offset
  abbrev IsFree : ℕ → ℕ → Type 0
  IsFree q last = (s : List ℕ) × IsChain nat_eq (free_steps a) q s × (last_or q s ≡ last)

  stays_free : (r : List (ℕ × ℕ)) (p : ℕ × ℕ) → IsChain same_pair (ways a t) p r → (last_or p r).0 ≡ p.0 → IsFree p.1 (last_or p r).1
  stays_free [] p chain e = ([], tt, refl)
  stays_free (y ∷ r) p chain e =
      let behind : IsAfterByte a.reverse y.0 (last_or y r).0 = chain_behind r y chain.1 in
      way_parts p y chain.0 (IsFree p.1 (last_or y r).1)
      (λ q h is. let B : ℕ × ℕ → Type 0 = λ z. IsAfterByte a.reverse z.0 (last_or y r).0 in
      absurd (read_leaves a.reverse t (node_at a p.1) p.0 q (last_or y r).0 (reads a.reverse t p.0) (reads_beside a.reverse t p.0) h
      (subst B is behind) e))
      (λ q h is. let place : p.0 ≡ y.0 = sym (ap (λ z. z.0) is) in
      let name : y.1 ≡ q = ap (λ z. z.1) is in
      let more = stays_free r y chain.1 (e ∙ place) in
      let H : ℕ → Type 0 = λ n. Has nat_eq n (free_steps a p.1) in
      (y.1 ∷ more.0, (subst H (sym name) h, more.1), more.2))

  pub none_here : IsSound a → has_empty a ≡ false → (i q : ℕ) → Has nat_eq q a.start_pattern → IsPairOf a t (i, q) → (e : ℕ × ℕ) →
      Has same_pair e (ends_from a t (i, q)) → e.0 ≡ i → ⊥
  none_here sound none i q start pair e h here =
      let run = listed_run a t (i, q) sound.named pair e h in
      let end : ℕ × ℕ = last_or (i, q) run.0 in
      let at : e.0 ≡ end.0 = match_place (node_at a end.1) end.0 e run.1.2 in
      let free = stays_free run.0 (i, q) run.1.0 (sym at ∙ here) in
      let there : Has nat_eq end.1 (reached_freely a) = comes a sound end.1 q free.0 start free.1 free.2 in
      let is = match_is (node_at a end.1) end.0 e run.1.2 in
      let matches : is_match (node_at a end.1) ≡ true = ap is_match is.1 in
      not_both (has_empty a) _ (any_has nat_eq names_equal (λ x. is_match (node_at a x)) end.1 (reached_freely a) there matches) none
