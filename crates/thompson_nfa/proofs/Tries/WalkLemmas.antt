-- A traversal of a trie of ranges: what is emitted so far, and what is left of a node's edges.
use Rattle.std.proofs.Common.{◌≡◌, ℕ, ◌+◌, ◌<◌, List, [], ◌∷◌, ◌++◌, map, length, get_or, drop, refl, sym, ap, ◌∙◌, arith, append_assoc}
use Rattle.std.proofs.lemmas.List.{map-append, drop_more}
use Rattle.hir_core.specs.Sequences.{bytes_of}
use Rattle.hir_core.specs.declared.utf8_sequences.Utf8Range.{Utf8Range}
use Rattle.thompson_nfa.specs.declared.range_tries.trie_nodes.Edge.{Edge}
use Rattle.thompson_nfa.specs.declared.range_tries.trie_nodes.Next.{Next}
use Rattle.thompson_nfa.specs.declared.range_tries.trie_nodes.Next.TheVariants.{Nothing, End, Node}
use Rattle.thompson_nfa.specs.TrieNodes.{following, along, IsInside, AreInside}
use Rattle.thompson_nfa.specs.RangeWalks.{path_then, depth_of}
use Rattle.thompson_nfa.proofs.Tries.InsertLemmas.{read_itself, next_at}

behind_range : (path : List (ℕ × ℕ)) (r : ℕ × ℕ) (qs : List (List (ℕ × ℕ))) →
    path_then path (map (λ q. r ∷ q) qs) ≡ path_then (path ++ r ∷ []) qs
behind_range path r [] = refl
behind_range path r (q ∷ qs) = rw (append_assoc path (r ∷ []) q, behind_range path r qs)

behind_along : (v : List (List (List (ℕ × ℕ)))) (path : List (ℕ × ℕ)) (e : Edge) (es : List Edge) →
    path_then path (along v (e ∷ es)) ≡ path_then (path ++ (e.range.start, e.range.end) ∷ []) (following v e.next)
    ++ path_then path (along v es)
behind_along v path e es =
    map-append (λ q. path ++ q) (map (λ q. (e.range.start, e.range.end) ∷ q) (following v e.next)) (along v es)
    ∙ ap (λ xs. xs ++ path_then path (along v es)) (behind_range path (e.range.start, e.range.end) (following v e.next))

module _ (v : List (List (List (ℕ × ℕ)))) (es : List Edge) (i : ℕ) (d : Edge) (l : i < length es) where
  pub walk_step : (path more : List Utf8Range) (so_far now all : List (List (ℕ × ℕ))) → more ≡ path ++ (get_or es i d).range ∷ [] →
      now ≡ so_far ++ path_then (map bytes_of more) (following v (get_or es i d).next) →
      so_far ++ path_then (map bytes_of path) (along v (drop i es)) ≡ all →
      now ++ path_then (map bytes_of path) (along v (drop (i + 1) es)) ≡ all
  walk_step path more so_far now all m n e =
      let e1 = ap (λ xs. so_far ++ path_then (map bytes_of path) (along v xs)) (sym (drop_more es i d l)) in
      let e2 = ap (λ xs. so_far ++ xs) (sym (behind_along v (map bytes_of path) (get_or es i d) (drop (i + 1) es))) in
      let e3 =
      sym (append_assoc so_far (path_then (map bytes_of path ++ bytes_of (get_or es i d).range ∷ []) (following v (get_or es i d).next))
      (path_then (map bytes_of path) (along v (drop (i + 1) es)))) in
      let path_is : map bytes_of more ≡ map bytes_of path ++ bytes_of (get_or es i d).range ∷ [] =
      ap (map bytes_of) m ∙ map-append bytes_of path ((get_or es i d).range ∷ []) in
      rw (n, path_is) (sym e3 ∙ e2 ∙ e1 ∙ e)

  pub edge_inside : (n : ℕ) → AreInside n es → IsInside n (get_or es i d).next
  edge_inside n inside = next_at n es i (get_or es i d) l (read_itself es i d l) inside

pub depth_falls : (n : ℕ) (next : Next) → IsInside n next → depth_of next < n + 1
depth_falls n Nothing h = omega arith
depth_falls n End h = omega arith
depth_falls n (Node m) h = omega arith
