-- Copies of a trie's nodes: what one more edge, and one more copy, adds.
use Rattle.std.proofs.Common.{◌≡◌, ℕ, zero, suc, ◌+◌, ◌<◌, ◌≤◌, List, [], ◌∷◌, ◌++◌, map, length, get_or, take, set, refl, sym, ap, ◌∙◌}
use Rattle.std.proofs.Common.{subst, arith, length-append, append_assoc, ⊎_elim}
use Rattle.std.proofs.lemmas.Bool.{cases_eq}
use Rattle.std.proofs.lemmas.List.{map-append, length-set, get_or-set_same, get_or-set_other, take_more, take_all}
use Rattle.std.proofs.Math.Seq.{get_or-append_seam}
use Rattle.hir_core.specs.declared.utf8_sequences.Utf8Range.{Utf8Range}
use Rattle.thompson_nfa.specs.declared.range_tries.trie_nodes.Edge.{Edge}
use Rattle.thompson_nfa.specs.declared.range_tries.trie_nodes.Next.{Next}
use Rattle.thompson_nfa.specs.declared.range_tries.trie_nodes.Next.TheVariants.{Nothing, Node}
use Rattle.thompson_nfa.specs.NodeCopies.{AreCopies}
use Rattle.thompson_nfa.specs.TrieNodes.{following, along, IsInside, AreInside, Rises, IsLater}
use Rattle.thompson_nfa.proofs.Tries.CoverLemmas.{inside_append}
use Rattle.thompson_nfa.proofs.Tries.InsertLemmas.{later_more, later_push}
use Rattle.thompson_nfa.proofs.Tries.NodeLemmas.{along_same, are_inside_more}

node_number : {m n : ℕ} → Node m ≡ Node n → m ≡ n
node_number e = cc

-- what an earlier copy emits
pub copy_found : (nodes copy : List (List (List (ℕ × ℕ)))) (names : List Next) (number made : ℕ) (d : Next) → AreCopies nodes copy names →
    number < length nodes → get_or names number d ≡ Node made →
    (made < length copy) × (following copy (Node made) ≡ following nodes (Node number))
copy_found nodes copy names number made d copies l is = copies.same number made (same_got names number Nothing d (omega (arith, copies.len))
    ∙ is)
  where
    same_got : (xs : List Next) (k : ℕ) (a b : Next) → k < length xs → get_or xs k a ≡ get_or xs k b
    same_got [] k a b l = absurd (omega arith)
    same_got (x ∷ xs) zero a b l = refl
    same_got (x ∷ xs) (suc k) a b l = same_got xs k a b (omega arith)

-- the edges of a node so far
pub record IsCopying (nodes old copy : List (List (List (ℕ × ℕ)))) (names : List Next) (es edges : List Edge) : Type 0 where
  pub later : IsLater old copy
  pub copies : AreCopies nodes copy names
  pub inside : AreInside (length copy) edges
  pub ranges : map (λ e. e.range) edges ≡ map (λ e. e.range) es
  pub same : along copy edges ≡ along nodes es

along_append : (v : List (List (List (ℕ × ℕ)))) (es fs : List Edge) → along v (es ++ fs) ≡ along v es ++ along v fs
along_append v [] fs = refl
along_append v (e ∷ es) fs =
    let here : List (List (ℕ × ℕ)) = map (λ q. (e.range.start, e.range.end) ∷ q) (following v e.next) in
    ap (λ (l : List (List (ℕ × ℕ))). here ++ l) (along_append v es fs) ∙ sym (append_assoc here (along v es) (along v fs))

-- one more edge, with a copy of what follows it
pub copying_more : (nodes old copy copy2 : List (List (List (ℕ × ℕ)))) (names names2 : List Next) (es edges edges2 : List Edge) (e : Edge)
    (n : Next) → IsCopying nodes old copy names es edges → IsLater copy copy2 → AreCopies nodes copy2 names2 →
    IsInside (length copy2) n → following copy2 n ≡ following nodes e.next → edges2 ≡ edges ++ record { range = e.range; next = n } ∷ [] →
    IsCopying nodes old copy2 names2 (es ++ e ∷ []) edges2
copying_more nodes old copy copy2 names names2 es edges edges2 e n so_far later copies inside same is =
    let P : List Edge → Type 0 = λ fs. IsCopying nodes old copy2 names2 (es ++ e ∷ []) fs in
    let f : Edge = record { range = e.range; next = n } in
    let behind : List (List (ℕ × ℕ)) → List (List (ℕ × ℕ)) = λ qs. map (λ q. (e.range.start, e.range.end) ∷ q) qs in
    subst P (sym is) (record {
      later = later_more old copy copy2 so_far.later later;
      copies = copies;
      inside = inside_append (length copy2) edges (f ∷ []) (are_inside_more (length copy) (length copy2) edges later.len so_far.inside)
          (inside, tt);
      ranges = map-append (λ x. x.range) edges (f ∷ []) ∙ ap (λ (l : List Utf8Range). l ++ e.range ∷ []) so_far.ranges
          ∙ sym (map-append (λ x. x.range) es (e ∷ []));
      same = along_append copy2 edges (f ∷ []) ∙ ap (λ (l : List (List (ℕ × ℕ))). l
          ++ along copy2 (f ∷ [])) (along_same copy copy2 (length copy) edges later.same so_far.inside ∙ so_far.same)
          ∙ ap (λ (qs : List (List (ℕ × ℕ))). along nodes es ++ (behind qs ++ [])) same ∙ sym (along_append nodes es (e ∷ []));
    })

-- the edge at a position
pub copying_next : (nodes old copy copy2 : List (List (List (ℕ × ℕ)))) (names names2 : List Next) (all edges edges2 : List Edge) (i : ℕ)
    (d : Edge) (n : Next) → i < length all → IsCopying nodes old copy names (take i all) edges → IsLater copy copy2 →
    AreCopies nodes copy2 names2 → IsInside (length copy2) n → following copy2 n ≡ following nodes (get_or all i d).next →
    edges2 ≡ edges ++ record { range = (get_or all i d).range; next = n } ∷ [] →
    IsCopying nodes old copy2 names2 (take (i + 1) all) edges2
copying_next nodes old copy copy2 names names2 all edges edges2 i d n l so_far later copies inside same is =
    let P : List Edge → Type 0 = λ es. IsCopying nodes old copy2 names2 es edges2 in
    subst P (sym (take_more all i d l)) (copying_more nodes old copy copy2 names names2 (take i all) edges edges2
    (get_or all i d) n so_far later copies inside same is)

rises_alike : (low : ℕ) (es fs : List Edge) → map (λ e. e.range) fs ≡ map (λ e. e.range) es → Rises low es → Rises low fs
rises_alike low [] [] e r = tt
rises_alike low [] (f ∷ fs) e r = cc
rises_alike low (x ∷ es) [] e r = cc
rises_alike low (x ∷ es) (f ∷ fs) e r =
    let same : x.range ≡ f.range = cc in
    let others : map (λ y. y.range) fs ≡ map (λ y. y.range) es = cc in
    let P : Utf8Range → Type 0 = λ g. (low ≤ g.start) × (g.start ≤ g.end) × Rises (g.end + 1) es in
    let here = subst P same r in
    (here.0, here.1, rises_alike (f.range.end + 1) es fs others here.2)

-- all edges are copied, and then the node is
module _ (nodes old copy : List (List (List (ℕ × ℕ)))) (names : List Next) (all edges : List Edge) (i : ℕ)
    (so_far : IsCopying nodes old copy names (take i all) edges) (past : length all ≤ i) where
  whole : IsCopying nodes old copy names all edges
  whole = let P : List Edge → Type 0 = λ es. IsCopying nodes old copy names es edges in subst P (take_all i all past) so_far

  pub copied_rise : Rises 0 all → Rises 0 edges
  copied_rise r = rises_alike 0 all edges whole.ranges r

  module _ (copy2 : List (List (List (ℕ × ℕ)))) (made : Next) (number : ℕ) (is : made ≡ Node (length copy)) (pushed : copy2 ≡ copy
      ++ along copy edges ∷ []) (emits : along nodes all ≡ get_or nodes number []) (there : number < length nodes) where
    later2 : IsLater copy copy2
    later2 = later_push copy (along copy edges) copy2 pushed

    pub copied_later : IsLater old copy2
    copied_later = later_more old copy copy2 whole.later later2

    emitted : get_or copy2 (length copy) [] ≡ get_or nodes number []
    emitted = ap (λ (v : List (List (List (ℕ × ℕ)))). get_or v (length copy) []) pushed ∙ get_or-append_seam copy (along copy edges) [] []
        ∙ whole.same ∙ emits

    longer : length copy < length copy2
    longer = omega (arith, ap length pushed, length-append copy (along copy edges ∷ []))

    pub copied_inside : IsInside (length copy2) made
    copied_inside = let P : Next → Type 0 = IsInside (length copy2) in subst P (sym is) longer

    pub copied_same : following copy2 made ≡ following nodes (Node number)
    copied_same = ap (following copy2) is ∙ emitted

    pub copied_names : (names2 : List Next) → names2 ≡ set names number made → AreCopies nodes copy2 names2
    copied_names names2 e =
        let P : List Next → Type 0 = AreCopies nodes copy2 in
        subst P (sym e) (record {
          len = length-set names number made ∙ whole.copies.len;
          same = λ j n got. ⊎_elim
              (λ (here : j ≡ number).
              let at : get_or (set names number made) j Nothing ≡ made =
              ap (λ k. get_or (set names number made) k Nothing) here
              ∙ get_or-set_same names number made Nothing (omega (arith, whole.copies.len, there)) in
              let same : length copy ≡ n = node_number (sym is ∙ sym at ∙ got) in
              let Q : ℕ → Type 0 = λ m. (m < length copy2) × (get_or copy2 m [] ≡ get_or nodes j []) in
              subst Q same (longer, emitted ∙ ap (λ k. get_or nodes k []) (sym here)))
              (λ (ne : j ≡ number → ⊥).
              let old_one = whole.copies.same j n (sym (get_or-set_other names number j made Nothing ne) ∙ got) in
              (omega (arith, old_one.0, later2.len), later2.same n old_one.0 ∙ old_one.1))
              (cases_eq j number);
        })
