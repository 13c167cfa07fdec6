-- Where runs end: at offsets that are reached by reading bytes of the haystack.
use Rattle.std.proofs.Common.{◌≡◌, ℕ, suc, ◌≤◌, true, false, Bool, List, [], ◌∷◌, map, refl, sym, ⊎_elim, Option, Some, None, subst}
use Rattle.std.proofs.Common.{arith}
use Rattle.nfa_core.specs.Walks.{Has}
use Rattle.nfa_core.specs.Runs.{IsChain, last_or}
use Rattle.nfa_core.specs.Places.{same_pair}
use Rattle.nfa_core.specs.Nfa.{Automaton, node_at, IsWellFormed}
use Rattle.nfa_core.specs.Reaches.{IsWithinReach}
use Rattle.nfa_core.specs.Ways.{Text, reads, is_satisfied, on_read, on_nothing, offset_after, ways, offset_of, bytes_left, IsPairOf}
use Rattle.nfa_core.specs.Ways.{ends_from}
use Rattle.nfa_core.proofs.MemberLemmas.{has_append}
use Rattle.nfa_core.proofs.PairLemmas.{from_map}
use Rattle.nfa_core.proofs.AutomatonLemmas.{IsOutsideOf, reads_beside}
use Rattle.nfa_core.proofs.EndsLemmas.{listed_run}
use Rattle.nfa_core.proofs.BehindLemmas.{place_zero, match_place}

read_inside : (is_reverse : Bool) (t : Text) (i k : ℕ) (read : Option (ℕ × ℕ)) → k ≤ bytes_left is_reverse t i →
    IsOutsideOf is_reverse t (offset_of is_reverse i k) read →
    IsWithinReach is_reverse i (bytes_left is_reverse t i) (offset_after (offset_of is_reverse i k) read)
read_inside is_reverse t i k None l beside = (k, l, refl)
read_inside false t i k (Some (b, j)) l beside = (suc k, omega (arith, beside.1), omega (arith, beside.0))
read_inside true t i k (Some (b, j)) l beside = (suc k, omega (arith, beside.0, beside.1), omega (arith, beside.0))

module _ (a : Automaton) (t : Text) (i : ℕ) where
  abbrev Inside : ℕ → Type 0
  Inside j = IsWithinReach a.reverse i (bytes_left a.reverse t i) j

  moved : (j x : ℕ) → Inside j → Inside (offset_after j (reads a.reverse t j))
  moved j x there =
      subst (λ (m : ℕ). Inside (offset_after m (reads a.reverse t m))) (sym there.2)
      (read_inside a.reverse t i there.0 (reads a.reverse t (offset_of a.reverse i there.0)) there.1
      (reads_beside a.reverse t (offset_of a.reverse i there.0)))

  way_inside : (p y : ℕ × ℕ) → Inside p.0 → Has same_pair y (ways a t p) → Inside y.0
  way_inside p y there way = ⊎_elim
      (λ read. let o = from_map (offset_after p.0 (reads a.reverse t p.0)) y (on_read (node_at a p.1) (reads a.reverse t p.0)) read in
      subst (λ (z : ℕ × ℕ). Inside z.0) (sym o.2) (moved p.0 p.1 there))
      (λ none. let o = from_map p.0 y (on_nothing (node_at a p.1) (λ l. is_satisfied a.reverse t l p.0)) none in
      subst (λ (z : ℕ × ℕ). Inside z.0) (sym o.2) there)
      (has_append same_pair y (map (λ q. (offset_after p.0 (reads a.reverse t p.0), q)) (on_read (node_at a p.1) (reads a.reverse t p.0)))
      (map (λ q. (p.0, q)) (on_nothing (node_at a p.1) (λ l. is_satisfied a.reverse t l p.0))) way)

  chain_inside : (r : List (ℕ × ℕ)) (p : ℕ × ℕ) → Inside p.0 → IsChain same_pair (ways a t) p r → Inside (last_or p r).0
  chain_inside [] p there chain = there
  chain_inside (y ∷ r) p there chain = chain_inside r y (way_inside p y there chain.0) chain.1

  pub ends_inside : (q : ℕ) → IsWellFormed a → IsPairOf a t (i, q) → (x : ℕ × ℕ) → Has same_pair x (ends_from a t (i, q)) → Inside x.0
  ends_inside q formed pair x h =
      let run = listed_run a t (i, q) formed pair x h in
      let end = last_or (i, q) run.0 in
      subst Inside (sym (match_place (node_at a (last_or (i, q) run.0).1) (last_or (i, q) run.0).0 x run.1.2))
      (chain_inside run.0 (i, q) (0, omega arith, sym (place_zero a.reverse i)) run.1.0)

pub inside_forward : (a : Automaton) (t : Text) (i j : ℕ) → a.reverse ≡ false → i ≤ t.end →
    IsWithinReach a.reverse i (bytes_left a.reverse t i) j → (i ≤ j) × (j ≤ t.end)
inside_forward a t i j up here is =
    let I : Bool → Type 0 = λ b. IsWithinReach b i (bytes_left b t i) j in
    let k : I false = subst I up is in
    (omega (arith, k.1, k.2), omega (arith, k.1, k.2, here))

pub inside_reverse : (a : Automaton) (t : Text) (i j : ℕ) → a.reverse ≡ true → t.start ≤ i →
    IsWithinReach a.reverse i (bytes_left a.reverse t i) j → (t.start ≤ j) × (j ≤ i)
inside_reverse a t i j is_reverse here is =
    let I : Bool → Type 0 = λ b. IsWithinReach b i (bytes_left b t i) j in
    let k : I true = subst I is_reverse is in
    (omega (arith, k.1, k.2, here), omega (arith, k.1, k.2))
