-- What the nodes of a trie emit, as nodes are added after them.
use Rattle.std.proofs.Common.{◌≡◌, ℕ, zero, suc, ◌+◌, ◌<◌, ◌≤◌, List, [], ◌∷◌, ◌++◌, map, length, get_or, refl, sym, ap, ◌∙◌, arith}
use Rattle.std.proofs.Common.{zero-add, length-append, Vec, Global}
use Rattle.std.proofs.lemmas.Grind.{common_steps}
use Rattle.std.proofs.lemmas.List.{get_or_append_left, get_or-map, length-map}
use Rattle.std.proofs.Math.Seq.{get_or-append_seam}
use Rattle.thompson_nfa.specs.declared.range_tries.trie_nodes.Edge.{Edge}
use Rattle.thompson_nfa.specs.declared.range_tries.trie_nodes.Next.{Next}
use Rattle.thompson_nfa.specs.declared.range_tries.trie_nodes.Next.TheVariants.{Nothing, End, Node}
use Rattle.thompson_nfa.specs.TrieNodes.{following, along, emitted_from, IsInside, AreInside, Rises, AreNodes}

pub emitted_push : (v : List (List (List (ℕ × ℕ)))) (ns : List (List Edge)) (n : List Edge) →
    emitted_from v (ns ++ n ∷ []) ≡ emitted_from v ns ++ along (emitted_from v ns) n ∷ []
emitted_push v [] n = refl
emitted_push v (m ∷ ns) n = emitted_push (v ++ along v m ∷ []) ns n

pub length_emitted : (v : List (List (List (ℕ × ℕ)))) (ns : List (List Edge)) → length (emitted_from v ns) ≡ length v + length ns
length_emitted v [] = omega arith
length_emitted v (m ∷ ns) = omega (arith, length_emitted (v ++ along v m ∷ []) ns, length-append v (along v m ∷ []))

pub emitted_kept : (v : List (List (List (ℕ × ℕ)))) (ns : List (List Edge)) (i : ℕ) → i < length v →
    get_or (emitted_from v ns) i [] ≡ get_or v i []
emitted_kept v [] i l = refl
emitted_kept v (m ∷ ns) i l =
    let more : i < length (v ++ along v m ∷ []) = omega (arith, length-append v (along v m ∷ [])) in
    let here : get_or (v ++ along v m ∷ []) i [] ≡ get_or v i [] = grind (arith, common_steps) in
    emitted_kept (v ++ along v m ∷ []) ns i more ∙ here

pub below_same : (v w : List (List (List (ℕ × ℕ)))) (k : ℕ) (next : Next) → ((i : ℕ) → i < k → get_or w i [] ≡ get_or v i []) →
    IsInside k next → following w next ≡ following v next
below_same v w k Nothing same l = refl
below_same v w k End same l = refl
below_same v w k (Node n) same l = same n l

pub along_same : (v w : List (List (List (ℕ × ℕ)))) (k : ℕ) (es : List Edge) → ((i : ℕ) → i < k → get_or w i [] ≡ get_or v i []) →
    AreInside k es → along w es ≡ along v es
along_same v w k [] same l = refl
along_same v w k (e ∷ es) same l = rw (below_same v w k e.next same l.0, along_same v w k es same l.1)

pub inside_more : (j k : ℕ) (next : Next) → j ≤ k → IsInside j next → IsInside k next
inside_more j k Nothing l here = tt
inside_more j k End l here = tt
inside_more j k (Node n) l here = omega arith

pub are_inside_more : (j k : ℕ) (es : List Edge) → j ≤ k → AreInside j es → AreInside k es
are_inside_more j k [] l here = tt
are_inside_more j k (e ∷ es) l here = (inside_more j k e.next l here.0, are_inside_more j k es l here.1)

pub inside_at : (n : ℕ) (ns : List (List Edge)) (i : ℕ) → AreNodes n ns → i < length ns → AreInside (n + i) (get_or ns i [])
inside_at n [] i nodes l = absurd (omega arith)
inside_at n (m ∷ ns) zero nodes l = are_inside_more n (n + 0) m (omega arith) nodes.0
inside_at n (m ∷ ns) (suc i) nodes l =
    are_inside_more (n + 1 + i) (n + suc i) (get_or ns i []) (omega arith) (inside_at (n + 1) ns i nodes.2 (omega arith))

pub rises_at : (n : ℕ) (ns : List (List Edge)) (i : ℕ) → AreNodes n ns → i < length ns → Rises 0 (get_or ns i [])
rises_at n [] i nodes l = absurd (omega arith)
rises_at n (m ∷ ns) zero nodes l = nodes.1
rises_at n (m ∷ ns) (suc i) nodes l = rises_at (n + 1) ns i nodes.2 (omega arith)

pub nodes_push : (n : ℕ) (ns : List (List Edge)) (e : List Edge) → AreNodes n ns → AreInside (n + length ns) e → Rises 0 e →
    AreNodes n (ns ++ e ∷ [])
nodes_push n [] e nodes inside rising = (are_inside_more (n + 0) n e (omega arith) inside, rising, tt)
nodes_push n (m ∷ ns) e nodes inside rising = (
  nodes.0,
  nodes.1,
  nodes_push (n + 1) ns e nodes.2 (are_inside_more (n + length (m ∷ ns)) (n + 1 + length ns) e (omega arith) inside)
      rising,
)

pub emits_at : (v : List (List (List (ℕ × ℕ)))) (ns : List (List Edge)) (n i : ℕ) → length v ≡ n → AreNodes n ns → i < length ns →
    along (emitted_from v ns) (get_or ns i []) ≡ get_or (emitted_from v ns) (n + i) []
emits_at v [] n i len nodes l = absurd (omega arith)
emits_at v (m ∷ ns) n zero len nodes l =
    let w : List (List (List (ℕ × ℕ))) = v ++ along v m ∷ [] in
    let long : length w ≡ length v + 1 = omega (arith, length-append v (along v m ∷ [])) in
    let at : n + 0 ≡ length v = omega arith in
    let read : get_or (emitted_from w ns) (length v) [] ≡ along v m = emitted_kept w ns (length v) (omega arith)
    ∙ get_or-append_seam v (along v m) [] [] in
    let same : along (emitted_from w ns) m ≡ along v m =
    along_same v (emitted_from w ns) n m (λ i h. emitted_kept w ns i (omega arith)
    ∙ get_or_append_left v (along v m ∷ []) [] i (omega arith)) nodes.0 in
    same ∙ sym read ∙ ap (λ j. get_or (emitted_from w ns) j []) (sym at)
emits_at v (m ∷ ns) n (suc i) len nodes l =
    let w : List (List (List (ℕ × ℕ))) = v ++ along v m ∷ [] in
    let long : length w ≡ n + 1 = omega (arith, length-append v (along v m ∷ [])) in
    let at : n + 1 + i ≡ n + suc i = omega arith in
    emits_at w ns (n + 1) i long nodes.2 (omega arith) ∙ ap (λ j. get_or (emitted_from w ns) j []) at

-- the edges of each node
abbrev pub rows_of : List (Vec Edge Global) → List (List Edge)
rows_of rows = map (λ v. v.items) rows

module _ (rows : List (Vec Edge Global)) (v : List (List (List (ℕ × ℕ)))) (is : emitted_from [] (rows_of rows) ≡ v) where
  -- there are as many nodes as rows
  pub node_count : length v ≡ length rows
  node_count = ap length (sym is) ∙ length_emitted [] (rows_of rows) ∙ zero-add (length (rows_of rows)) ∙ length-map rows (λ v. v.items)

  module _ (i : ℕ) (row : Vec Edge Global) (at : row ≡ get_or rows i row) (edges : List Edge) (e : edges ≡ row.items)
      (nodes : AreNodes 0 (rows_of rows)) (l : i < length v) where
    read : edges ≡ get_or (rows_of rows) i []
    read = e ∙ sym (get_or-map (λ v. v.items) rows i row [] (omega (arith, node_count)) ∙ ap (λ v. v.items) (sym at))

    row_below : i < length (rows_of rows)
    row_below = omega (arith, node_count, length-map rows (λ v. v.items))

    pub row_emits : along v edges ≡ get_or v i []
    row_emits = rw (← is, read) (emits_at [] (rows_of rows) 0 i refl nodes row_below
        ∙ ap (λ k. get_or (emitted_from [] (rows_of rows)) k []) (zero-add i))

    pub row_inside : AreInside i edges
    row_inside = rw read (are_inside_more (0 + i) i (get_or (rows_of rows) i []) (omega arith)
        (inside_at 0 (rows_of rows) i nodes row_below))

    pub row_rises : Rises 0 edges
    row_rises = rw read (rises_at 0 (rows_of rows) i nodes row_below)
