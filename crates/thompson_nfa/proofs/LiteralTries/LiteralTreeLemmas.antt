-- What the items of a node mean: the strings of the node.
use Rattle.std.proofs.Common.{◌≡◌, ◌⊎◌, inl, inr, ℕ, ◌+◌, Bool, true, false, List, [], ◌∷◌, ◌++◌, map, length, get_or, nat_eq, ◌&&◌}
use Rattle.std.proofs.Common.{if◌then◌else◌, reverse, refl, sym, ap, ◌∙◌, subst, arith, append_assoc, append-nil}
use Rattle.std.specs.List.{flat_map}
use Rattle.std.proofs.lemmas.Grind.{common_steps, flat_map-append}
use Rattle.std.proofs.lemmas.List.{map-append, reverse-append}
use Rattle.hir_core.specs.BySequences.{range_tree}
use Rattle.hir_core.specs.Facts.{LoopsRead}
use Rattle.hir_core.specs.Means.{Looks, Means, stands}
use Rattle.hir_core.specs.PreferredEnds.{preferred_ends, Has as HasEnd}
use Rattle.hir_core.specs.Tree.{Tree, empty, literal, alternation}
use Rattle.hir_core.proofs.ForCallers.{Has-left, Has-right, Has-append, Has-if, Has-then, flat_map_same}
use Rattle.nfa_core.specs.BuilderStates.{range_draft}
use Rattle.nfa_core.specs.Drafted.{Table}
use Rattle.nfa_core.specs.Walks.{Has, distinct}
use Rattle.nfa_core.specs.Ways.{Text}
use Rattle.nfa_core.proofs.ForCallers.{join_brings, of_join, none_in, has_cons, has_same, has_later, names_equal}
use Rattle.thompson_nfa.specs.Denotes.{seen, IsMeant, Orders, Denotes}
use Rattle.thompson_nfa.specs.LiteralGroups.{each_after, chunk_strings}
use Rattle.thompson_nfa.specs.LiteralStates.{spelt_literal, literals, edge_ranges, edge_trees, item_tree, item_trees}
use Rattle.thompson_nfa.specs.LiteralTries.{literal_ends_of, IsLike, item_strings, node_strings}
use Rattle.thompson_nfa.specs.Shared.{read_then, branch_trees}
use Rattle.thompson_nfa.specs.declared.literals.literal_groups.Edge.{Edge}
use Rattle.thompson_nfa.proofs.Walks.DenoteLemmas.{denotes_like, denotes_join, denotes_range}
use Rattle.thompson_nfa.proofs.Walks.HaltLemmas.{halts_like}
use Rattle.thompson_nfa.proofs.Walks.MeantLemmas.{meant_map}
use Rattle.thompson_nfa.proofs.Walks.OrderLemmas.{orders_same_firsts}
use Rattle.thompson_nfa.proofs.Walks.ReachLemmas.{reaches_like}
use Rattle.thompson_nfa.proofs.Classes.SharedLemmas.{joins_read}
use Rattle.thompson_nfa.proofs.Walks.SameLemmas.{same_literal_append, same_literal_one, same_literal_none}
use Rattle.std.proofs.lemmas.Bool.{and_parts}

-- ---- loops: there are none

pub literals_read : (back : Bool) (ws : List (List ℕ)) → LoopsRead (literals back ws)
literals_read back [] = tt
literals_read back (w ∷ ws) = (tt, literals_read back ws)

read_reads : (back : Bool) (r : ℕ × ℕ) (y : Tree) → LoopsRead y → LoopsRead (read_then back r y)
read_reads false r y f = (tt, f)
read_reads true r y f = (f, tt)

chunk_reads : (back : Bool) (names : List ℕ) (x : ℕ → Tree) (es : List Edge) → ((n : ℕ) → LoopsRead (x n)) →
    LoopsRead (alternation (branch_trees back (edge_ranges names es) (edge_trees x es)))
chunk_reads back names x [] f = tt
chunk_reads back names x (e ∷ es) f = (read_reads back (e.byte, e.byte) (x e.next) (f e.next), chunk_reads back names x es f)

item_reads : (back : Bool) (names : List ℕ) (x : ℕ → Tree) (i : List Edge) → ((n : ℕ) → LoopsRead (x n)) →
    LoopsRead (item_tree back names x i)
item_reads back names x [] f = tt
item_reads back names x (e ∷ es) f = chunk_reads back names x (e ∷ es) f

items_read : (back : Bool) (names : List ℕ) (x : ℕ → Tree) (is : List (List Edge)) → ((n : ℕ) → LoopsRead (x n)) →
    LoopsRead (alternation (item_trees back names x is))
items_read back names x [] f = tt
items_read back names x (i ∷ is) f = (item_reads back names x i f, items_read back names x is f)

-- the trees of the groups' strings
abbrev pub node_tree : Bool → List (List (List ℕ)) → ℕ → Tree
node_tree back groups n = literals back (get_or groups n [])

-- ---- ends

module _ (looks : Looks) (h : List ℕ) where
  abbrev ends : Tree → ℕ → List ℕ
  ends x i = preferred_ends looks h x i

  alternation_append : (xs ys : List Tree) (i : ℕ) → ends (alternation (xs ++ ys)) i ≡ ends (alternation xs) i ++ ends (alternation ys) i
  alternation_append [] ys i = refl
  alternation_append (x ∷ xs) ys i =
      ap (λ (l : List ℕ). ends x i ++ l) (alternation_append xs ys i) ∙ sym
      (append_assoc (ends x i) (ends (alternation xs) i) (ends (alternation ys) i))

  literals_append : (back : Bool) (us vs : List (List ℕ)) (i : ℕ) → ends (literals back (us ++ vs)) i ≡ ends (literals back us) i
      ++ ends (literals back vs) i
  literals_append back us vs i =
      ap (λ (ts : List Tree). ends (alternation ts) i) (map-append (spelt_literal back) us vs)
      ∙ alternation_append (map (spelt_literal back) us) (map (spelt_literal back) vs) i

  -- one offset at most
  both_or_none : (c : Bool) (k : ℕ) (f g : ℕ → List ℕ) → flat_map (λ p. f p ++ g p) (if c then k ∷ [] else []) ≡ flat_map f (if c
      then k ∷ [] else []) ++ flat_map g (if c then k ∷ [] else [])
  both_or_none true k f g = append-nil (f k ++ g k) ∙ ap (λ (l : List ℕ). l ++ g k) (sym (append-nil (f k)))
      ∙ ap (λ (l : List ℕ). (f k ++ []) ++ l) (sym (append-nil (g k)))
  both_or_none false k f g = refl

  abbrev nowhere : ℕ → List ℕ
  nowhere k = []

  no_places : (ks : List ℕ) → flat_map nowhere ks ≡ []
  no_places [] = refl
  no_places (k ∷ ks) = no_places ks

  byte_here : (b i : ℕ) → ends (range_tree (b, b)) i ≡ (if stands h i (b ∷ []) then (i + 1) ∷ [] else [])
  byte_here b i = (same_literal_one b).ends looks h i

  one_forward : (b : ℕ) (w : List ℕ) (i : ℕ) → flat_map (ends (literal w)) (ends (range_tree (b, b)) i) ≡ ends (literal (b ∷ w)) i
  one_forward b w i = ap (flat_map (ends (literal w))) (byte_here b i) ∙ (same_literal_append (b ∷ []) w).ends looks h i

  forward : (b : ℕ) (ws : List (List ℕ)) (i : ℕ) → flat_map (ends (literals false ws)) (ends (range_tree (b, b)) i) ≡ ends
      (literals false (each_after b ws)) i
  forward b [] i = no_places (ends (range_tree (b, b)) i)
  forward b (w ∷ ws) i =
      ap (flat_map (λ p. ends (literal w) p ++ ends (literals false ws) p)) (byte_here b i)
      ∙ both_or_none (stands h i (b ∷ [])) (i + 1) (ends (literal w)) (ends (literals false ws))
      ∙ ap (λ (ks : List ℕ). flat_map (ends (literal w)) ks ++ flat_map (ends (literals false ws)) ks) (sym (byte_here b i))
      ∙ ap (λ (l : List ℕ). l ++ flat_map (ends (literals false ws)) (ends (range_tree (b, b)) i)) (one_forward b w i)
      ∙ ap (λ (l : List ℕ). ends (literal (b ∷ w)) i ++ l) (forward b ws i)

  one_backward : (b : ℕ) (w : List ℕ) (i : ℕ) → flat_map (ends (range_tree (b, b))) (ends (literal (reverse w)) i) ≡ ends
      (literal (reverse (b ∷ w))) i
  one_backward b w i =
      flat_map_same (ends (range_tree (b, b))) (ends (literal (b ∷ []))) (ends (literal (reverse w)) i) (λ k m. byte_here b k)
      ∙ (same_literal_append (reverse w) (b ∷ [])).ends looks h i ∙ ap (λ (v : List ℕ). ends (literal v) i)
      (sym (reverse-append (b ∷ []) w))

  backward : (b : ℕ) (ws : List (List ℕ)) (i : ℕ) → flat_map (ends (range_tree (b, b))) (ends (literals true ws) i) ≡ ends
      (literals true (each_after b ws)) i
  backward b [] i = refl
  backward b (w ∷ ws) i =
      flat_map-append (ends (range_tree (b, b))) (ends (literal (reverse w)) i) (ends (literals true ws) i)
      ∙ ap (λ (l : List ℕ). l ++ flat_map (ends (range_tree (b, b))) (ends (literals true ws) i)) (one_backward b w i)
      ∙ ap (λ (l : List ℕ). ends (literal (reverse (b ∷ w))) i ++ l) (backward b ws i)

  read_ends : (back : Bool) (b : ℕ) (ws : List (List ℕ)) (i : ℕ) → ends (read_then back (b, b) (literals back ws)) i ≡ ends
      (literals back (each_after b ws)) i
  read_ends false b ws i = forward b ws i
  read_ends true b ws i = backward b ws i

  module _ (back : Bool) (names : List ℕ) (groups : List (List (List ℕ))) where
    chunk_ends : (es : List Edge) (i : ℕ) → ends (alternation (branch_trees back (edge_ranges names es)
        (edge_trees (node_tree back groups) es))) i ≡ ends (literals back (chunk_strings groups es)) i
    chunk_ends [] i = refl
    chunk_ends (e ∷ es) i =
        let later : List Tree = branch_trees back (edge_ranges names es) (edge_trees (node_tree back groups) es) in
        let first : List (List ℕ) = each_after e.byte (get_or groups e.next []) in
        ap (λ (l : List ℕ). l ++ ends (alternation later) i) (read_ends back e.byte (get_or groups e.next []) i)
        ∙ ap (λ (l : List ℕ). ends (literals back first) i ++ l) (chunk_ends es i)
        ∙ sym (literals_append back first (chunk_strings groups es) i)

    no_byte : (way : Bool) (i : ℕ) → ends empty i ≡ ends (literals way ([] ∷ [])) i
    no_byte false i = same_literal_none.ends looks h i ∙ sym (append-nil (ends (literal []) i))
    no_byte true i = same_literal_none.ends looks h i ∙ sym (append-nil (ends (literal []) i))

    item_ends : (x : List Edge) (i : ℕ) → ends (item_tree back names (node_tree back groups) x) i ≡ ends
        (literals back (item_strings groups x)) i
    item_ends [] i = no_byte back i
    item_ends (e ∷ es) i = chunk_ends (e ∷ es) i

    items_ends : (xs : List (List Edge)) (i : ℕ) → ends (alternation (item_trees back names (node_tree back groups) xs)) i ≡ ends
        (literals back (node_strings groups xs)) i
    items_ends [] i = refl
    items_ends (x ∷ xs) i =
        ap (λ (l : List ℕ). l ++ ends (alternation (item_trees back names (node_tree back groups) xs)) i) (item_ends x i)
        ∙ ap (λ (l : List ℕ). ends (literals back (item_strings groups x)) i ++ l) (items_ends xs i)
        ∙ sym (literals_append back (item_strings groups x) (node_strings groups xs) i)

  string_ends : (ws : List (List ℕ)) (i : ℕ) → ends (literals false ws) i ≡ literal_ends_of ws h i
  string_ends [] i = refl
  string_ends (w ∷ ws) i = ap (λ (l : List ℕ). (if stands h i w then (i + length w) ∷ [] else []) ++ l) (string_ends ws i)

-- ---- members

abbrev pub Member : List ℕ → List (List ℕ) → Type 0
Member w [] = ⊥
Member w (v ∷ vs) = (v ≡ w) ⊎ Member w vs

all_same : (w : List ℕ) → stands w 0 w ≡ true
all_same [] = refl
all_same (a ∷ w) =
    let same : nat_eq a a ≡ true = grind (arith, common_steps) in
    ap (λ (t : Bool). t && stands w 0 w) same ∙ all_same w

equal_stands : (v w : List ℕ) → stands w 0 v ≡ true → length v ≡ length w → v ≡ w
equal_stands [] [] s l = refl
equal_stands [] (b ∷ w) s l = absurd (omega arith)
equal_stands (a ∷ v) [] s l = absurd (omega arith)
equal_stands (a ∷ v) (b ∷ w) s l =
    let x = and_parts (nat_eq a b) (stands w 0 v) s in
    let same : a ≡ b = (names_equal a b).0 x.0 in
    ap (λ (c : ℕ). c ∷ v) same ∙ ap (λ (u : List ℕ). b ∷ u) (equal_stands v w x.1 (omega arith))

member_ends : (w : List ℕ) (ws : List (List ℕ)) → Member w ws → HasEnd (literal_ends_of ws w 0) (length w)
member_ends w [] m = elim m [ ]
member_ends w (v ∷ ws) (inl e) =
    let P : List ℕ → Type 0 = λ u. HasEnd (literal_ends_of (u ∷ ws) w 0) (length w) in
    let here : HasEnd (if stands w 0 w then (0 + length w) ∷ [] else []) (length w) =
    Has-then (stands w 0 w) (0 + length w) (length w) (all_same w) (omega arith) in
    subst P (sym e) (Has-left (if stands w 0 w then (0 + length w) ∷ [] else []) (literal_ends_of ws w 0) (length w) here)
member_ends w (v ∷ ws) (inr m) = Has-right (if stands w 0 v then (0 + length v) ∷ []
    else []) (literal_ends_of ws w 0) (length w) (member_ends w ws m)

ends_member : (w : List ℕ) (ws : List (List ℕ)) → HasEnd (literal_ends_of ws w 0) (length w) → Member w ws
ends_member w [] h = elim h [ ]
ends_member w (v ∷ ws) h = elim (Has-append (if stands w 0 v then (0 + length v) ∷ [] else []) (literal_ends_of ws w 0) (length w) h) [
  | inl a ↦ let x = Has-if (stands w 0 v) (0 + length v) (length w) a in let e = x.1 in inl (equal_stands v w x.0 (omega arith))
  | inr b ↦ inr (ends_member w ws b)
]

has_of_end : (js : List ℕ) (k : ℕ) → HasEnd js k → Has nat_eq k js
has_of_end [] k h = elim h [ ]
has_of_end (j ∷ js) k (inl e) = has_same nat_eq names_equal k j js (sym e)
has_of_end (j ∷ js) k (inr h) = has_later nat_eq k j js (has_of_end js k h)

end_of_has : (js : List ℕ) (k : ℕ) → Has nat_eq k js → HasEnd js k
end_of_has [] k h = none_in nat_eq k (HasEnd [] k) h
end_of_has (j ∷ js) k h = elim (has_cons nat_eq names_equal k j js h) [ inl e ↦ inl (sym e) | inr g ↦ inr (end_of_has js k g) ]

-- lists of strings with the same ends, in the same order up to repeats, have the same members
pub like_members : (us vs : List (List ℕ)) → IsLike us vs → (w : List ℕ) → Member w us → Member w vs
like_members us vs like w m =
    let js : List ℕ = literal_ends_of us w 0 in
    let ks : List ℕ = literal_ends_of vs w 0 in
    let P : List ℕ → Type 0 = λ places. Has nat_eq (length w) places in
    let found : Has nat_eq (length w) (distinct nat_eq ks) = subst P (like w 0)
    (join_brings nat_eq names_equal [] js (length w) (has_of_end js (length w) (member_ends w us m))) in
    let there : Has nat_eq (length w) ks = of_join nat_eq names_equal (λ p. Has nat_eq p ks) [] ks (λ p g. none_in nat_eq p _ g) (λ p g. g)
    (length w) found in
    ends_member w vs (end_of_has ks (length w) there)

-- ---- meanings

-- the span of one of the strings
abbrev OneOf : Looks → List ℕ → Bool → List (List ℕ) → ℕ → ℕ → Type 0
OneOf looks h back ws i j = (w : List ℕ) × Member w ws × Means looks h (spelt_literal back w) i j

one_of : (looks : Looks) (h : List ℕ) (back : Bool) (ws : List (List ℕ)) (i j : ℕ) → Means looks h (literals back ws) i j →
    OneOf looks h back ws i j
one_of looks h back [] i j m = absurd m
one_of looks h back (w ∷ ws) i j (inl a) = (w, inl refl, a)
one_of looks h back (w ∷ ws) i j (inr b) = let x = one_of looks h back ws i j b in (x.0, inr x.1, x.2)

of_one : (looks : Looks) (h : List ℕ) (back : Bool) (ws : List (List ℕ)) (w : List ℕ) (i j : ℕ) → Member w ws →
    Means looks h (spelt_literal back w) i j → Means looks h (literals back ws) i j
of_one looks h back [] w i j m a = absurd m
of_one looks h back (v ∷ ws) w i j (inl e) a = let P : List ℕ → Type 0 = λ u. Means looks h (spelt_literal back u) i j in
    inl (subst P (sym e) a)
of_one looks h back (v ∷ ws) w i j (inr m) a = inr (of_one looks h back ws w i j m a)

like_means : (back : Bool) (us vs : List (List ℕ)) → IsLike us vs → (looks : Looks) (h : List ℕ) (i j : ℕ) →
    Means looks h (literals back us) i j → Means looks h (literals back vs) i j
like_means back us vs like looks h i j m =
    let x = one_of looks h back us i j m in of_one looks h back vs x.0 i j (like_members us vs like x.0 x.1) x.2

like_orders : (back : Bool) (T : Table) (s e : ℕ) (us vs : List (List ℕ)) → IsLike us vs → back ≡ false → (t : Text) →
    Orders t T s e (preferred_ends t.holds (seen t) (literals back us)) →
    Orders t T s e (preferred_ends t.holds (seen t) (literals back vs))
like_orders false T s e us vs like up t o =
    orders_same_firsts t T s e (preferred_ends t.holds (seen t) (literals false us)) (preferred_ends t.holds (seen t) (literals false vs))
    (λ i. ap (distinct nat_eq) (string_ends t.holds (seen t) us i) ∙ like (seen t) i
    ∙ ap (distinct nat_eq) (sym (string_ends t.holds (seen t) vs i))) o
like_orders true T s e us vs like up t o = cc

-- lists of strings with the same ends, in the same order up to repeats, may stand for each other
pub denotes_like_strings : (back : Bool) (T : Table) (s e : ℕ) (us vs : List (List ℕ)) → IsLike us vs →
    Denotes back T s e (literals back us) → Denotes back T s e (literals back vs)
denotes_like_strings back T s e us vs like d =
    let x : Tree = literals back us in
    let y : Tree = literals back vs in
    let unlike : IsLike vs us = λ h i. sym (like h i) in
    record {
      reaches = λ t. reaches_like back t T s e (IsMeant back t x) (IsMeant back t y) (meant_map y x (like_means back vs us unlike) back t)
          (meant_map x y (like_means back us vs like) back t) (d.reaches t);
      halts = λ f t. halts_like back t T s e (IsMeant back t x) (IsMeant back t y) (meant_map x y (like_means back us vs like) back t)
          (d.halts (literals_read back us) t);
      orders = λ up f t. like_orders back T s e us vs like up t (d.orders up (literals_read back us) t);
    }

-- what a node's items mean are the node's strings
pub denotes_node : (back : Bool) (T : Table) (s e : ℕ) (names : List ℕ) (groups : List (List (List ℕ))) (items : List (List Edge))
    (strings : List (List ℕ)) → IsLike (node_strings groups items) strings →
    Denotes back T s e (alternation (item_trees back names (node_tree back groups) items)) → Denotes back T s e (literals back strings)
denotes_node back T s e names groups items strings like d =
    denotes_like_strings back T s e (node_strings groups items) strings like
    (denotes_like back T s e (alternation (item_trees back names (node_tree back groups) items)) (literals back (node_strings groups items))
    (λ f. items_read back names (node_tree back groups) items (λ n. literals_read back (get_or groups n [])))
    (λ looks h i. items_ends looks h back names groups items i) d)

-- a byte, and then what is read after it
pub denotes_byte_then : (back : Bool) (T : Table) (s q e b : ℕ) (ws : List (List ℕ)) → T s ≡ range_draft b b q →
    Denotes back T q e (literals back ws) → Denotes back T s e (literals back (each_after b ws))
denotes_byte_then back T s q e b ws is d =
    let both : Tree = read_then back (b, b) (literals back ws) in
    denotes_like back T s e both (literals back (each_after b ws)) (λ f. read_reads back (b, b) (literals back ws) (literals_read back ws))
    (λ looks h i. read_ends looks h back b ws i)
    (denotes_join back T s q e (range_tree (b, b)) (literals back ws) both (joins_read back (b, b) (literals back ws))
    (denotes_range back T s q b b is) d)
