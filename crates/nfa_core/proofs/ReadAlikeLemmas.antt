-- Two readings of looks that agree on the looks of an automaton give haystacks that are alike for it.
use Rattle.std.proofs.Common.{◌≡◌, ℕ, zero, suc, ◌+◌, ◌≤◌, Bool, true, false, cond, List, [], ◌∷◌, refl, ap, arith}
use Rattle.look_core.specs.declared.look.Look.{Look}
use Rattle.look_core.specs.LookSets.{has_look}
use Rattle.nfa_core.specs.Nfa.{Node, byte_range, sparse_node, dense_node, look_node, union_node, binary_union, capture_node, fail_node}
use Rattle.nfa_core.specs.Nfa.{match_node, Automaton, node_at}
use Rattle.nfa_core.specs.NfaValue.{looks_of}
use Rattle.nfa_core.specs.Ways.{reads, is_satisfied, on_nothing, on_read, offset_of}
use Rattle.nfa_core.proofs.LookedLemmas.{looks_any}
use Rattle.nfa_core.specs.Reaches.{LeadAlike, read_by}

pub nothing_same : (node : Node) (f g : Look → Bool) → ((l : Look) (next : ℕ) → node ≡ look_node l next → f l ≡ g l) →
    on_nothing node f ≡ on_nothing node g
nothing_same (byte_range low high next) f g same = refl
nothing_same (sparse_node ranges) f g same = refl
nothing_same (dense_node names) f g same = refl
nothing_same (look_node l next) f g same = ap (λ b. cond b (next ∷ []) []) (same l next refl)
nothing_same (union_node names) f g same = refl
nothing_same (binary_union first second) f g same = refl
nothing_same (capture_node next pattern group slot) f g same = refl
nothing_same fail_node f g same = refl
nothing_same (match_node pattern) f g same = refl

reads_same : (b : Bool) (f g : Look → ℕ → Bool) (h : List ℕ) (s e i : ℕ) → reads b (read_by f h s e) i ≡ reads b (read_by g h s e) i
reads_same false f g h s e i = refl
reads_same true f g h s e zero = refl
reads_same true f g h s e (suc i) = refl

-- readings that agree on the looks of the states, each look turned round when reading in reverse
pub alike_by_looks : (a : Automaton) (f g : Look → ℕ → Bool) (h : List ℕ) (start end i d : ℕ) →
    ((l : Look) (k : ℕ) → has_look (looks_of a.states) l ≡ true → k ≤ d →
    is_satisfied a.reverse (read_by f h start end) l (offset_of a.reverse i k) ≡ is_satisfied a.reverse (read_by g h start end) l
    (offset_of a.reverse i k)) →
    LeadAlike a (read_by f h start end) (read_by g h start end) i d
alike_by_looks a f g h start end i d same = record {
  same_start = refl;
  same_end = refl;
  looks = λ k q low.
      nothing_same (node_at a q) (λ l. is_satisfied a.reverse (read_by f h start end) l (offset_of a.reverse i k))
      (λ l. is_satisfied a.reverse (read_by g h start end) l (offset_of a.reverse i k))
      (λ l next is. same l k ((looks_any l a).1 (q, next, is)) low);
  bytes = λ k q low. ap (on_read (node_at a q)) (reads_same a.reverse f g h start end (offset_of a.reverse i k));
}

passed_forward : (b : Bool) (f g : Look → ℕ → Bool) (h : List ℕ) (start end : ℕ) (l : Look) (j : ℕ) → b ≡ false → f l j ≡ g l j →
    is_satisfied b (read_by f h start end) l j ≡ is_satisfied b (read_by g h start end) l j
passed_forward false f g h start end l j up same = same
passed_forward true f g h start end l j up same = cc

place_forward : (b : Bool) (i k : ℕ) → b ≡ false → offset_of b i k ≡ i + k
place_forward false i k up = refl
place_forward true i k up = cc

pub alike_forward : (a : Automaton) (f g : Look → ℕ → Bool) (h : List ℕ) (start end i d : ℕ) → a.reverse ≡ false →
    ((l : Look) (j : ℕ) → has_look (looks_of a.states) l ≡ true → i ≤ j → j ≤ i + d → f l j ≡ g l j) →
    LeadAlike a (read_by f h start end) (read_by g h start end) i d
alike_forward a f g h start end i d up same = alike_by_looks a f g h start end i d
    (λ l k there low. let at : offset_of a.reverse i k ≡ i + k = place_forward a.reverse i k up in
    passed_forward a.reverse f g h start end l (offset_of a.reverse i k) up
    (same l (offset_of a.reverse i k) there (omega arith) (omega arith)))
