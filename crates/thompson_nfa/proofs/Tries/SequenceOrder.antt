-- What the nodes of a trie emit ascends.
use Rattle.std.proofs.Common.{◌≡◌, inl, inr, ℕ, zero, suc, ◌+◌, ◌<◌, ◌≤◌, List, [], ◌∷◌, ◌++◌, map, get_or, refl, arith, subst}
use Rattle.thompson_nfa.specs.declared.range_tries.trie_nodes.Edge.{Edge}
use Rattle.thompson_nfa.specs.declared.range_tries.trie_nodes.Next.{Next}
use Rattle.thompson_nfa.specs.declared.range_tries.trie_nodes.Next.TheVariants.{Nothing, End, Node}
use Rattle.thompson_nfa.specs.RangeTries.{IsBeforeAll, IsTrie}
use Rattle.thompson_nfa.specs.TrieNodes.{following, along, emitted_from, Rises, AreNodes}

before_append : (q : List (ℕ × ℕ)) (xs ys : List (List (ℕ × ℕ))) → IsBeforeAll q xs → IsBeforeAll q ys → IsBeforeAll q (xs ++ ys)
before_append q [] ys f g = g
before_append q (x ∷ xs) ys f g = (f.0, before_append q xs ys f.1 g)

before_behind : (r k : ℕ × ℕ) (q : List (ℕ × ℕ)) (qs : List (List (ℕ × ℕ))) → r.1 < k.0 → IsBeforeAll (r ∷ q) (map (λ p. k ∷ p) qs)
before_behind r k q [] l = tt
before_behind r k q (p ∷ qs) l = (inl l, before_behind r k q qs l)

same_behind : (r : ℕ × ℕ) (q : List (ℕ × ℕ)) (qs : List (List (ℕ × ℕ))) → IsBeforeAll q qs → IsBeforeAll (r ∷ q) (map (λ p. r ∷ p) qs)
same_behind r q [] f = tt
same_behind r q (p ∷ qs) f = (inr (refl, f.0), same_behind r q qs f.1)

trie_behind : (r : ℕ × ℕ) (qs : List (List (ℕ × ℕ))) → r.0 ≤ r.1 → IsTrie qs → IsTrie (map (λ q. r ∷ q) qs)
trie_behind r [] l t = tt
trie_behind r (q ∷ qs) l t = ((l, t.0), same_behind r q qs t.1, trie_behind r qs l t.2)

before_along : (v : List (List (List (ℕ × ℕ)))) (r : ℕ × ℕ) (q : List (ℕ × ℕ)) (low : ℕ) (es : List Edge) → r.1 < low → Rises low es →
    IsBeforeAll (r ∷ q) (along v es)
before_along v r q low [] l rise = tt
before_along v r q low (e ∷ es) l rise =
    let start : low ≤ e.range.start = rise.0 in
    let end : e.range.start ≤ e.range.end = rise.1 in
    before_append (r ∷ q) (map (λ p. (e.range.start, e.range.end) ∷ p) (following v e.next)) (along v es)
    (before_behind r (e.range.start, e.range.end) q (following v e.next) (omega arith))
    (before_along v r q (e.range.end + 1) es (omega arith) rise.2)

append_along : (v : List (List (List (ℕ × ℕ)))) (r : ℕ × ℕ) (qs : List (List (ℕ × ℕ))) (low : ℕ) (es : List Edge) → r.1 < low →
    Rises low es →
    IsTrie (map (λ q. r ∷ q) qs) → IsTrie (along v es) → IsTrie (map (λ q. r ∷ q) qs ++ along v es)
append_along v r [] low es l rise a b = b
append_along v r (q ∷ qs) low es l rise a b = (
  a.0,
  before_append (r ∷ q) (map (λ p. r ∷ p) qs) (along v es) a.1 (before_along v r q low es l rise),
  append_along v r qs low es l rise a.2 b,
)

pub trie_below : (v : List (List (List (ℕ × ℕ)))) (next : Next) → ((i : ℕ) → IsTrie (get_or v i [])) → IsTrie (following v next)
trie_below v Nothing all = tt
trie_below v End all = (tt, tt, tt)
trie_below v (Node n) all = all n

pub trie_along : (v : List (List (List (ℕ × ℕ)))) (low : ℕ) (es : List Edge) → ((i : ℕ) → IsTrie (get_or v i [])) → Rises low es →
    IsTrie (along v es)
trie_along v low [] all rise = tt
trie_along v low (e ∷ es) all rise =
    append_along v (e.range.start, e.range.end) (following v e.next) (e.range.end + 1) es (omega arith) rise.2
    (trie_behind (e.range.start, e.range.end) (following v e.next) rise.1 (trie_below v e.next all))
    (trie_along v (e.range.end + 1) es all rise.2)

tries_push : (v : List (List (List (ℕ × ℕ)))) (x : List (List (ℕ × ℕ))) → ((i : ℕ) → IsTrie (get_or v i [])) → IsTrie x → (i : ℕ) →
    IsTrie (get_or (v ++ x ∷ []) i [])
tries_push [] x all t zero = t
tries_push [] x all t (suc i) = tt
tries_push (y ∷ v) x all t zero = all 0
tries_push (y ∷ v) x all t (suc i) = tries_push v x (λ j. all (suc j)) t i

pub tries_emitted : (v : List (List (List (ℕ × ℕ)))) (n : ℕ) (ns : List (List Edge)) → ((i : ℕ) → IsTrie (get_or v i [])) → AreNodes n ns →
    (i : ℕ) → IsTrie (get_or (emitted_from v ns) i [])
tries_emitted v n [] all nodes i = all i
tries_emitted v n (m ∷ ns) all nodes i =
    tries_emitted (v ++ along v m ∷ []) (n + 1) ns (tries_push v (along v m) all (trie_along v 0 m all nodes.1)) nodes.2 i

pub tries_of : (v : List (List (List (ℕ × ℕ)))) (ns : List (List Edge)) → emitted_from [] ns ≡ v → AreNodes 0 ns → (i : ℕ) →
    IsTrie (get_or v i [])
tries_of v ns e nodes i = subst (λ (w : List (List (List (ℕ × ℕ)))). IsTrie (get_or w i [])) e (tries_emitted [] 0 ns (λ j. tt) nodes i)
