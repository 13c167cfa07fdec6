-- The nodes of a trie of strings: what one more node adds.
use Rattle.std.proofs.Common.{◌≡◌, ℕ, zero, suc, ◌+◌, ◌-◌, ◌<◌, ◌≤◌, List, [], ◌∷◌, ◌++◌, length, drop, get_or, nat_eq, refl, sym, ap}
use Rattle.std.proofs.Common.{◌∙◌, subst, arith, length-append, ⊎_elim}
use Rattle.std.proofs.lemmas.Bool.{cases_lt}
use Rattle.std.proofs.lemmas.List.{drop-append-le, nil_from_length}
use Rattle.std.proofs.Math.Seq.{drop-nil}
use denote.Ref.{Bor}
use Rattle.nfa_core.specs.Walks.{distinct}
use Rattle.thompson_nfa.specs.declared.literals.literal_groups.Edge.{Edge}
use Rattle.thompson_nfa.specs.LiteralGroups.{texts, bytes_in, bytes_in_all, strings_in_all, AllSome}
use Rattle.thompson_nfa.specs.LiteralLaid.{NodeValue, no_node, node_weight, weight_in_all, matches_in_all, HasStrings, LaysNode}
use Rattle.thompson_nfa.specs.LiteralStems.{BeginAll, without_first, after_prefix}
use Rattle.thompson_nfa.specs.LiteralTries.{literal_ends_of, edges_in, matches_in, IsNode}
use Rattle.thompson_nfa.proofs.LiteralTries.LiteralGroupLemmas.{all_some_append, all_bytes_append, all_strings_append}
use Rattle.thompson_nfa.proofs.LiteralTries.LiteralNodeLemmas.{are_wider, strings_kept}
use Rattle.thompson_nfa.proofs.LiteralTries.LiteralRoundLemmas.{texts_long}
use Rattle.thompson_nfa.proofs.LiteralTries.LiteralStemLemmas.{behind_long, behind_bytes, behind_without}

got_before : (gs hs : List (List (List ℕ))) (k : ℕ) → k < length gs → get_or (gs ++ hs) k [] ≡ get_or gs k []
got_before [] hs k l = absurd (omega arith)
got_before (g ∷ gs) hs zero l = refl
got_before (g ∷ gs) hs (suc k) l = got_before gs hs k (omega arith)

got_node : (ns ms : List NodeValue) (k : ℕ) → k < length ns → get_or (ns ++ ms) k no_node ≡ get_or ns k no_node
got_node [] ms k l = absurd (omega arith)
got_node (n ∷ ns) ms zero l = refl
got_node (n ∷ ns) ms (suc k) l = got_node ns ms k (omega arith)

last_node : (ns : List NodeValue) (n : NodeValue) (k : ℕ) → k ≡ length ns → get_or (ns ++ n ∷ []) k no_node ≡ n
last_node [] n k e = ap (λ (m : ℕ). get_or (n ∷ []) m no_node) e
last_node (x ∷ ns) n zero e = absurd (omega arith)
last_node (x ∷ ns) n (suc k) e = last_node ns n k (omega arith)

-- the nodes of the first groups; the other groups wait
pub record NodesTo (nodes : List NodeValue) (groups : List (List (List ℕ))) (strings : List (List ℕ)) : Type 0 where
  pub within : length nodes ≤ length groups
  pub some : 1 ≤ length groups
  pub filled : AllSome groups
  pub root : get_or groups 0 [] ≡ strings
  pub each : (i : ℕ) → i < length nodes → HasStrings (i + 1) groups (get_or nodes i no_node) (get_or groups i [])
  pub room : weight_in_all nodes + bytes_in_all (drop (length nodes) groups) ≤ bytes_in strings
  pub ended : matches_in_all nodes + strings_in_all (drop (length nodes) groups) ≤ length strings

-- groups that are added later don't matter
node_kept : (first less : ℕ) (groups more : List (List (List ℕ))) (items : List (List Edge)) (strings : List (List ℕ)) → less ≤ first →
    IsNode first groups items strings → IsNode less (groups ++ more) items strings
node_kept first less groups more items strings le node = record {
  like = λ h i. ap (λ (l : List (List ℕ)). distinct nat_eq (literal_ends_of l h i))
      (strings_kept groups more first (length groups) items node.chunks (omega arith)) ∙ node.like h i;
  chunks = are_wider first (length groups) less (length (groups ++ more)) items node.chunks le (omega (arith, length-append groups more));
  some = node.some;
  few = node.few;
  parted = node.parted;
}

node_first : (first less : ℕ) (groups : List (List (List ℕ))) (items : List (List Edge)) (strings : List (List ℕ)) → less ≤ first →
    IsNode first groups items strings → IsNode less groups items strings
node_first first less groups items strings le node = record {
  like = node.like;
  chunks = are_wider first (length groups) less (length groups) items node.chunks le (omega arith);
  some = node.some;
  few = node.few;
  parted = node.parted;
}

weight_push : (nodes : List NodeValue) (node : NodeValue) → weight_in_all (nodes ++ node ∷ []) ≡ weight_in_all nodes + node_weight node
weight_push [] node = omega arith
weight_push (n ∷ nodes) node = omega (arith, weight_push nodes node)

matches_push : (nodes : List NodeValue) (node : NodeValue) → matches_in_all (nodes ++ node ∷ []) ≡ matches_in_all nodes
    + matches_in node.items
matches_push [] node = omega arith
matches_push (n ∷ nodes) node = omega (arith, matches_push nodes node)

some_at : (groups : List (List (List ℕ))) (k : ℕ) → AllSome groups → k < length groups → 1 ≤ length (get_or groups k [])
some_at [] k a l = absurd (omega arith)
some_at (g ∷ groups) zero a l = a.0
some_at (g ∷ groups) (suc k) a l = some_at groups k a.1 (omega arith)

-- the groups that wait, if one of them is taken and others are added
waiting : (groups fresh : List (List (List ℕ))) (k : ℕ) → k < length groups →
    bytes_in_all (drop (k + 1) (groups ++ fresh)) + bytes_in (get_or groups k []) ≡ bytes_in_all (drop k groups) + bytes_in_all fresh
waiting [] fresh k l = absurd (omega arith)
waiting (g ∷ groups) fresh zero l = omega (arith, all_bytes_append groups fresh)
waiting (g ∷ groups) fresh (suc k) l =
    let P : ℕ → Type 0 = λ n. bytes_in_all (drop n (g ∷ groups ++ fresh)) + bytes_in (get_or groups k []) ≡ bytes_in_all
    (drop k groups) + bytes_in_all fresh in
    let same : suc (k + 1) ≡ suc k + 1 = omega arith in
    subst P same (waiting groups fresh k (omega arith))

waiting_strings : (groups fresh : List (List (List ℕ))) (k : ℕ) → k < length groups →
    strings_in_all (drop (k + 1) (groups ++ fresh)) + length (get_or groups k []) ≡ strings_in_all (drop k groups) + strings_in_all fresh
waiting_strings [] fresh k l = absurd (omega arith)
waiting_strings (g ∷ groups) fresh zero l = omega (arith, all_strings_append groups fresh)
waiting_strings (g ∷ groups) fresh (suc k) l =
    let P : ℕ → Type 0 = λ n. strings_in_all (drop n (g ∷ groups ++ fresh)) + length (get_or groups k []) ≡ strings_in_all
    (drop k groups) + strings_in_all fresh in
    let same : suc (k + 1) ≡ suc k + 1 = omega arith in
    subst P same (waiting_strings groups fresh k (omega arith))

module _ (nodes : List NodeValue) (groups : List (List (List ℕ))) (strings : List (List ℕ)) (so_far : NodesTo nodes groups strings) (k : ℕ)
    (at : k ≡ length nodes) (less : k < length groups)
    (fresh : List (List (List ℕ))) (node : NodeValue) (lays : LaysNode (length groups) [] fresh node (get_or groups k [])) where
  fresh_count : length fresh ≡ edges_in node.items
  fresh_count = omega (arith, ap length lays.adds.is, lays.adds.one_each)

  rest_some : 1 ≤ length lays.rest
  rest_some = omega (arith, some_at groups k so_far.filled less, ap length lays.is, behind_long node.stem lays.rest)

  -- the bytes of a group cover its node's stem and edges and the bytes of the new groups
  paid : node_weight node + bytes_in_all fresh ≤ bytes_in (get_or groups k [])
  paid = omega (arith, fresh_count, lays.adds.room, behind_bytes node.stem lays.rest rest_some, ap bytes_in lays.is)

  wait : bytes_in_all (drop (k + 1) (groups ++ fresh)) + bytes_in (get_or groups k []) ≡ bytes_in_all
      (drop (length nodes) groups) + bytes_in_all fresh
  wait = waiting groups fresh k less ∙ ap (λ (n : ℕ). bytes_in_all (drop n groups) + bytes_in_all fresh) at

  long : length (nodes ++ node ∷ []) ≡ k + 1
  long = omega (arith, length-append nodes (node ∷ []), at)

  here : HasStrings (k + 1) (groups ++ fresh) node (get_or groups k [])
  here = record {
    rest = lays.rest;
    is = lays.is;
    holds = node_first (length groups) (k + 1) (groups
        ++ fresh) node.items lays.rest (omega arith) (lays.holds groups refl);
  }

  pub node_next : NodesTo (nodes ++ node ∷ []) (groups ++ fresh) strings
  node_next = record {
    within = omega (arith, long, length-append groups fresh);
    some = omega (arith, length-append groups fresh);
    filled = all_some_append groups fresh so_far.filled (let P : List (List (List ℕ)) → Type 0 = AllSome in
        subst P (sym lays.adds.is) lays.adds.some);
    root = got_before groups fresh 0 (omega arith) ∙ so_far.root;
    each = λ i l. ⊎_elim
        (λ (h : i < length nodes).
        let P : NodeValue → Type 0 = λ n. HasStrings (i + 1) (groups ++ fresh) n (get_or (groups ++ fresh) i []) in
        let Q : List (List ℕ) → Type 0 = λ g. HasStrings (i + 1) (groups ++ fresh) (get_or nodes i no_node) g in
        let old = so_far.each i h in
        subst P (sym (got_node nodes (node ∷ []) i h)) (subst Q (sym (got_before groups fresh i (omega arith)))
        (record {
          rest = old.rest;
          is = old.is;
          holds = node_kept (i + 1) (i + 1) groups fresh (get_or nodes i no_node).items old.rest
              (omega arith) old.holds;
        })))
        (λ (h : length nodes ≤ i).
        let same : k ≡ i = omega (arith, long) in
        let P : ℕ → Type 0 = λ j. HasStrings (j + 1) (groups ++ fresh) (get_or (nodes ++ node ∷ []) j no_node)
        (get_or (groups ++ fresh) j []) in
        let Q : NodeValue → Type 0 = λ n. HasStrings (k + 1) (groups ++ fresh) n (get_or (groups ++ fresh) k []) in
        let R : List (List ℕ) → Type 0 = λ g. HasStrings (k + 1) (groups ++ fresh) node g in
        subst P same (subst Q (sym (last_node nodes node k at)) (subst R (sym (got_before groups fresh k less)) here)))
        (cases_lt i (length nodes));
    room =
        let same : drop (length (nodes ++ node ∷ [])) (groups ++ fresh) ≡ drop (k + 1) (groups ++ fresh) =
        ap (λ (n : ℕ). drop n (groups ++ fresh)) long in
        omega (arith, ap bytes_in_all same, wait, paid, so_far.room, weight_push nodes node);
    ended =
        let same : drop (length (nodes ++ node ∷ [])) (groups ++ fresh) ≡ drop (k + 1) (groups ++ fresh) =
        ap (λ (n : ℕ). drop n (groups ++ fresh)) long in
        omega (
          arith,
          ap strings_in_all same,
          waiting_strings groups fresh k less,
          ap (λ (n : ℕ). strings_in_all (drop n groups)) at,
          lays.ended,
          behind_long node.stem lays.rest,
          ap length lays.is,
          so_far.ended,
          matches_push nodes node,
        );
  }

  -- fewer bytes and groups wait
  pub waits_less : length (groups ++ fresh) - length (nodes ++ node ∷ []) + bytes_in_all
      (drop (length (nodes ++ node ∷ [])) (groups ++ fresh)) < length groups - length nodes + bytes_in_all (drop (length nodes) groups)
  waits_less =
      let same : drop (length (nodes ++ node ∷ [])) (groups ++ fresh) ≡ drop (k + 1) (groups ++ fresh) =
      ap (λ (n : ℕ). drop n (groups ++ fresh)) long in
      omega (arith, ap bytes_in_all same, wait, paid, long, at, fresh_count, length-append groups fresh)

-- ---- groups that were taken are held no longer

-- the groups that wait are held
pub record NodesHeld (nodes : List NodeValue) (held : List (List (List ℕ))) (strings : List (List ℕ)) : Type 0 where
  pub groups : List (List (List ℕ))
  pub as_many : length groups ≡ length held
  pub left : drop (length nodes) groups ≡ drop (length nodes) held
  pub to : NodesTo nodes groups strings

-- how much is still to do
abbrev pub left_of : List NodeValue → List (List (List ℕ)) → ℕ
left_of nodes held = length held - length nodes + bytes_in_all (drop (length nodes) held)

got_of_drop : (k : ℕ) (xs ys : List (List (List ℕ))) → drop k xs ≡ drop k ys → get_or xs k [] ≡ get_or ys k []
got_of_drop k xs ys e = got k xs ∙ ap (λ (l : List (List (List ℕ))). get_or l 0 []) e ∙ sym (got k ys)
  where
    got : (n : ℕ) (zs : List (List (List ℕ))) → get_or zs n [] ≡ get_or (drop n zs) 0 []
    got zero zs = refl
    got (suc n) [] = refl
    got (suc n) (z ∷ zs) = got n zs

drop_next : (k : ℕ) (xs : List (List (List ℕ))) → drop (k + 1) xs ≡ drop 1 (drop k xs)
drop_next zero xs = refl
drop_next (suc k) [] = drop-nil (suc k + 1)
drop_next (suc k) (x ∷ xs) = let P : ℕ → Type 0 = λ n. drop n (x ∷ xs) ≡ drop 1 (drop k xs) in let same : suc (k + 1) ≡ suc k + 1 =
    omega arith in subst P same (drop_next k xs)

module _ (nodes : List NodeValue) (held : List (List (List ℕ))) (strings : List (List ℕ)) (so_far : NodesHeld nodes held strings) where
  pub held_some : (k : ℕ) → k ≡ length nodes → k < length held → 1 ≤ length (get_or held k [])
  held_some k at less =
      let Q : ℕ → Type 0 = λ n. drop n so_far.groups ≡ drop n held in
      let some = some_at so_far.groups k so_far.to.filled (omega (arith, so_far.as_many)) in
      omega (arith, some, ap length (got_of_drop k so_far.groups held (subst Q (sym at) so_far.left)))

  module _ (k : ℕ) (at : k ≡ length nodes) (less : k < length held) (kept fresh : List (List (List ℕ)))
      (as_long : length kept ≡ length held) (later : drop (k + 1) kept ≡ drop (k + 1) held) (node : NodeValue)
      (lays : LaysNode (length held) [] fresh node (get_or held k [])) where
    lefts : drop k so_far.groups ≡ drop k held
    lefts = let Q : ℕ → Type 0 = λ n. drop n so_far.groups ≡ drop n held in subst Q (sym at) so_far.left

    lays_here : LaysNode (length so_far.groups) [] fresh node (get_or so_far.groups k [])
    lays_here =
        let P : ℕ → Type 0 = λ n. LaysNode n [] fresh node (get_or so_far.groups k []) in
        let Q : List (List ℕ) → Type 0 = λ g. LaysNode (length held) [] fresh node g in
        subst P (sym so_far.as_many) (subst Q (sym (got_of_drop k so_far.groups held lefts)) lays)

    here_less : k < length so_far.groups
    here_less = omega (arith, so_far.as_many, less)

    long2 : length (nodes ++ node ∷ []) ≡ k + 1
    long2 = omega (arith, length-append nodes (node ∷ []), at)

    left_next : drop (length (nodes ++ node ∷ [])) (so_far.groups ++ fresh) ≡ drop (length (nodes ++ node ∷ [])) (kept ++ fresh)
    left_next =
        let Q : ℕ → Type 0 = λ n. drop n (so_far.groups ++ fresh) ≡ drop n (kept ++ fresh) in
        subst Q (sym long2) (drop-append-le (k + 1) so_far.groups fresh (omega (arith, here_less))
        ∙ ap (λ (l : List (List (List ℕ))). l ++ fresh) (drop_next k so_far.groups ∙ ap (λ (l : List (List (List ℕ))). drop 1 l) lefts
        ∙ sym (drop_next k held) ∙ sym later)
        ∙ sym (drop-append-le (k + 1) kept fresh (omega (arith, as_long, less))))

    held_next : NodesHeld (nodes ++ node ∷ []) (kept ++ fresh) strings
    held_next = record {
      groups = so_far.groups ++ fresh;
      as_many = omega (arith, so_far.as_many, as_long, length-append so_far.groups fresh, length-append kept fresh);
      left = left_next;
      to = node_next nodes so_far.groups strings so_far.to k at here_less fresh node lays_here;
    }

    held_less : left_of (nodes ++ node ∷ []) (kept ++ fresh) < left_of nodes held
    held_less =
        let less_wait = waits_less nodes so_far.groups strings so_far.to k at here_less fresh node lays_here in
        omega (
          arith,
          less_wait,
          ap bytes_in_all left_next,
          ap bytes_in_all so_far.left,
          so_far.as_many,
          as_long,
          length-append so_far.groups fresh,
          length-append kept fresh,
        )

    pub taken_next : (nodes2 : List NodeValue) (held2 : List (List (List ℕ))) → nodes2 ≡ nodes ++ node ∷ [] → held2 ≡ kept ++ fresh →
        NodesHeld nodes2 held2 strings × (left_of nodes2 held2 < left_of nodes held)
    taken_next nodes2 held2 e1 e2 =
        let P : List NodeValue → Type 0 = λ ns. NodesHeld ns held2 strings × (left_of ns held2 < left_of nodes held) in
        let Q : List (List (List ℕ)) → Type 0 = λ hs. NodesHeld (nodes ++ node ∷ []) hs strings ×
        (left_of (nodes ++ node ∷ []) hs < left_of nodes held) in
        subst P (sym e1) (subst Q (sym e2) (held_next, held_less))

-- ---- one node is laid

-- what follows the stem, in references
module _ (stem : List ℕ) (strings rest row : List (Bor (List ℕ))) (begins : BeginAll stem (texts strings))
    (rest_is : texts rest ≡ without_first (length stem) (texts strings)) (row_is : row ≡ rest) where
  pub stem_split : after_prefix stem (texts row) ≡ texts strings
  stem_split = ap (λ (r : List (Bor (List ℕ))). after_prefix stem (texts r)) row_is ∙ ap (after_prefix stem) rest_is
      ∙ behind_without stem (texts strings) begins

  pub rest_long : length row ≡ length strings
  rest_long = omega (arith, texts_long row, texts_long strings, behind_long stem (texts row), ap length stem_split)

empty_prefix : (ws : List (List ℕ)) → after_prefix [] ws ≡ ws
empty_prefix [] = refl
empty_prefix (w ∷ ws) = ap (λ (r : List (List ℕ)). w ∷ r) (empty_prefix ws)

pub no_stem : (stem : List ℕ) (ws : List (List ℕ)) → length stem ≡ 0 → after_prefix stem ws ≡ ws
no_stem stem ws none = ap (λ (t : List ℕ). after_prefix t ws) (nil_from_length stem none) ∙ empty_prefix ws

-- a group was taken, its node was laid after the other nodes, and groups were added
abbrev pub LaidNext : List NodeValue → List (List (List ℕ)) → List NodeValue → List (List (List ℕ)) → ℕ → Type 0
LaidNext nodes held nodes2 held2 k = (kept : List (List (List ℕ))) × (fresh : List (List (List ℕ))) × (node : NodeValue) ×
    (length kept ≡ length held) × (drop (k + 1) kept ≡ drop (k + 1) held) × LaysNode (length held) [] fresh node (get_or held k []) ×
    (nodes2 ≡ nodes ++ node ∷ []) × (held2 ≡ kept ++ fresh)

pub next_held : (nodes : List NodeValue) (held : List (List (List ℕ))) (strings : List (List ℕ)) (nodes2 : List NodeValue)
    (held2 : List (List (List ℕ))) (k : ℕ) → NodesHeld nodes held strings → k ≡ length nodes → k < length held →
    LaidNext nodes held nodes2 held2 k → NodesHeld nodes2 held2 strings × (left_of nodes2 held2 < left_of nodes held)
next_held nodes held strings nodes2 held2 k so_far at less x = taken_next nodes held strings so_far k at less x.0 x.1 x.3 x.4 x.2 x.5
    nodes2 held2 x.6 x.7
