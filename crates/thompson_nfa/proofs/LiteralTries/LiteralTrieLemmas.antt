-- A trie of strings: what the nodes that are compiled make.
use Rattle.std.proofs.Common.{◌≡◌, ℕ, zero, suc, ◌+◌, ◌-◌, ◌*◌, ◌<◌, ◌≤◌, Bool, List, [], ◌∷◌, map, length, drop, get_or, set, None, refl}
use Rattle.std.proofs.Common.{sym, ap, ◌∙◌, subst, arith, ⊎_elim, true}
use Rattle.std.specs.Prelude.{All}
use Rattle.std.proofs.lemmas.Bool.{cases_lt, cases_eq}
use Rattle.std.proofs.lemmas.List.{length-set, get_or-set_same, get_or-set_other, get_or-map, length-map}
use Rattle.std.proofs.lemmas.List.Elements.{All-weaker}
use Rattle.search_core.specs.Index.{greatest_index}
use Rattle.nfa_core.specs.BuilderStates.{Assembly, draft_at, patched, is_sparse, empty_draft}
use Rattle.nfa_core.specs.Drafted.{Table}
use Rattle.nfa_core.specs.Renaming.{stands_for}
use Rattle.nfa_core.specs.declared.build_error.BuildError.{BuildError}
use Rattle.thompson_nfa.specs.Compiled.{Finished, ComesOut, Makes, Weighs, Does, sum_of_bytes}
use Rattle.thompson_nfa.specs.Denotes.{Denotes}
use Rattle.thompson_nfa.specs.LiteralGroups.{bytes_in}
use Rattle.thompson_nfa.specs.LiteralStates.{AddsNode, literals, IsLed, item_trees}
use Rattle.thompson_nfa.specs.LiteralLaid.{NodeValue, no_node, node_weight, weight_in_all, matches_in_all, HasStrings, IsLaidTrie}
use Rattle.thompson_nfa.specs.LiteralTexts.{AddsText}
use Rattle.thompson_nfa.specs.LiteralTries.{edges_in, chunks_in, matches_in, AreChunks}
use Rattle.thompson_nfa.specs.Refusals.{Quits, ExceedsLimit}
use Rattle.thompson_nfa.specs.declared.literals.literal_groups.Edge.{Edge}
use Rattle.hir_core.specs.Tree.{Tree, alternation}
use Rattle.thompson_nfa.proofs.Steps.LookLemmas.{adds_none, quiet_plain, uses_literals}
use Rattle.thompson_nfa.proofs.Walks.AheadLemmas.{denotes_then_empty}
use Rattle.thompson_nfa.proofs.Walks.DenoteLemmas.{denotes_empty}
use Rattle.thompson_nfa.proofs.Steps.GrowLemmas.{Partly, partly_joined}
use Rattle.thompson_nfa.proofs.LiteralTries.LiteralNodeLemmas.{are_wider}
use Rattle.thompson_nfa.proofs.LiteralTries.LiteralTreeLemmas.{node_tree, denotes_node}
use Rattle.thompson_nfa.proofs.Steps.OutLemmas.{out_here, out_next, out_at}
use Rattle.thompson_nfa.proofs.Steps.ProgressLemmas.{Progress, made}
use Rattle.thompson_nfa.proofs.Classes.ScalarLemmas.{Spent, quits_later}

-- one of the states from the common end on
abbrev pub IsThere : Assembly → Assembly → ℕ → Type 0
IsThere old mid q = (length old.drafts ≤ q) × (q < length mid.drafts)

-- the table has the states that were added, except for the common end
abbrev pub HasOthers : Assembly → Assembly → Table → Type 0
HasOthers old mid table = (q : ℕ) → length old.drafts < q → q < length mid.drafts → table q ≡ draft_at mid.drafts q

-- the nodes from number k on are compiled
pub record TrieTo (old mid : Assembly) (end : ℕ) (nodes : List NodeValue) (strings : List (List ℕ)) (names : List ℕ) (k : ℕ) : Type 0 where
  pub trie : IsLaidTrie nodes strings
  pub within : k ≤ length nodes
  pub end_is : end ≡ length old.drafts
  pub partly : Partly true old mid
  pub groups : mid.groups ≡ old.groups
  pub here : draft_at mid.drafts end ≡ empty_draft 0
  pub longer : length old.drafts + 1 ≤ length mid.drafts
  pub states : length mid.drafts ≤ length old.drafts + 1 + 2 * weight_in_all (drop k nodes)
  pub bytes : sum_of_bytes mid + 8 + 4096 * length old.drafts ≤ sum_of_bytes old + 4096 * length mid.drafts
  pub weighs : Weighs old mid (24 + 32 * weight_in_all (drop k nodes) + 36 * matches_in_all (drop k nodes))
  pub numbered : length mid.drafts ≤ greatest_index + 1
  pub stands : (q : ℕ) → length old.drafts < q → q < length mid.drafts → stands_for (draft_at mid.drafts q) ≡ None
  pub names_long : length names ≡ length nodes
  pub names_there : All (IsThere old mid) names
  pub denotes : (table : Table) → HasOthers old mid table → (n : ℕ) → k ≤ n → n < length nodes →
      Denotes old.reverse table (get_or names n 0) end (literals old.reverse (get_or trie.groups n []))

weight_from : (nodes : List NodeValue) (k : ℕ) → k < length nodes → weight_in_all (drop k nodes) ≡ node_weight
    (get_or nodes k no_node) + weight_in_all (drop (k + 1) nodes)
weight_from [] k l = absurd (omega arith)
weight_from (n ∷ nodes) zero l = refl
weight_from (n ∷ nodes) (suc k) l =
    let P : ℕ → Type 0 = λ m. weight_in_all (drop k nodes) ≡ node_weight (get_or nodes k no_node) + weight_in_all (drop m (n ∷ nodes)) in
    let same : suc (k + 1) ≡ suc k + 1 = omega arith in
    subst P same (weight_from nodes k (omega arith))

weight_left : (nodes : List NodeValue) (k : ℕ) → weight_in_all (drop k nodes) ≤ weight_in_all nodes
weight_left nodes zero = omega arith
weight_left [] (suc k) = omega arith
weight_left (n ∷ nodes) (suc k) = omega (arith, weight_left nodes k)

matches_from : (nodes : List NodeValue) (k : ℕ) → k < length nodes → matches_in_all (drop k nodes) ≡ matches_in
    (get_or nodes k no_node).items + matches_in_all (drop (k + 1) nodes)
matches_from [] k l = absurd (omega arith)
matches_from (n ∷ nodes) zero l = refl
matches_from (n ∷ nodes) (suc k) l =
    let P : ℕ → Type 0 = λ m. matches_in_all (drop k nodes) ≡ matches_in (get_or nodes k no_node).items + matches_in_all
    (drop m (n ∷ nodes)) in
    let same : suc (k + 1) ≡ suc k + 1 = omega arith in
    subst P same (matches_from nodes k (omega arith))

matches_left : (nodes : List NodeValue) (k : ℕ) → matches_in_all (drop k nodes) ≤ matches_in_all nodes
matches_left nodes zero = omega arith
matches_left [] (suc k) = omega arith
matches_left (n ∷ nodes) (suc k) = omega (arith, matches_left nodes k)

set_there : (P : ℕ → Type 0) (names : List ℕ) (k id : ℕ) → All P names → P id → All P (set names k id)
set_there P names k id all p n d l =
    let m : n < length names = omega (arith, length-set names k id) in
    ⊎_elim
    (λ (e : n ≡ k).
    let Q : ℕ → Type 0 = λ j. P (get_or (set names k id) j d) in
    subst Q (sym e) (subst P (sym (get_or-set_same names k id d (omega arith))) p))
    (λ (ne : n ≡ k → ⊥). subst P (sym (get_or-set_other names k n id d ne)) (all n d m))
    (cases_eq n k)

module _ (old mid : Assembly) (end : ℕ) (nodes : List NodeValue) (strings : List (List ℕ)) (names : List ℕ) (k : ℕ)
    (so_far : TrieTo old mid end nodes strings names (k + 1)) (less : k < length nodes) (node : NodeValue)
    (node_is : get_or nodes k no_node ≡ node) where
  back_same : mid.reverse ≡ old.reverse
  back_same = ap (λ (b : Assembly). b.reverse) so_far.partly.grows.settings

  has_strings : HasStrings (k + 1) so_far.trie.groups node (get_or so_far.trie.groups k [])
  has_strings = let P : NodeValue → Type 0 = λ n. HasStrings (k + 1) so_far.trie.groups n (get_or so_far.trie.groups k []) in
      subst P node_is (so_far.trie.each k less)

  pub node_some : 1 ≤ length node.items
  node_some = has_strings.holds.some

  pub node_few : length node.items ≤ 2 * chunks_in node.items + 1
  node_few = has_strings.holds.few

  pub node_parted : length node.items ≤ 2 * matches_in node.items + 1
  node_parted = has_strings.holds.parted

  pub node_chunks : AreChunks 0 (length names) node.items
  node_chunks = are_wider (k + 1) (length so_far.trie.groups) 0 (length names) node.items has_strings.holds.chunks (omega arith)
      (omega (arith, so_far.names_long, so_far.trie.as_many))

  end_below : end < length mid.drafts
  end_below = omega (arith, so_far.end_is, so_far.longer)

  weight_now : weight_in_all (drop k nodes) ≡ node_weight node + weight_in_all (drop (k + 1) nodes)
  weight_now = weight_from nodes k less ∙ ap (λ (n : NodeValue). node_weight n + weight_in_all (drop (k + 1) nodes)) node_is

  matches_now : matches_in_all (drop k nodes) ≡ matches_in node.items + matches_in_all (drop (k + 1) nodes)
  matches_now = matches_from nodes k less ∙ ap (λ (n : NodeValue). matches_in n.items + matches_in_all (drop (k + 1) nodes)) node_is

  -- what this node and those after it take
  node_fits : 32 * (node_weight node + weight_in_all (drop (k + 1) nodes))
      + 36 * (matches_in node.items + matches_in_all (drop (k + 1) nodes))
      ≤ 32 * bytes_in strings + 36 * length strings
  node_fits = omega (
    arith,
    weight_now,
    weight_left nodes k,
    so_far.trie.room,
    matches_now,
    matches_left nodes k,
    so_far.trie.ended,
  )

  pub node_refused : (new : Assembly) (e : BuildError) → Quits mid new (2 * edges_in node.items) e →
      Quits old new (1 + 2 * bytes_in strings) e
  node_refused new e r =
      let spent : Spent old mid (1 + 2 * weight_in_all (drop (k + 1) nodes)) = record {
        settings = so_far.partly.grows.settings;
        longer = so_far.partly.grows.longer;
        states = omega (arith, so_far.states);
        bytes = omega (arith, so_far.bytes);
      } in
      quits_later (1 + 2 * bytes_in strings) spent r (omega (arith, weight_now, weight_left nodes k, so_far.trie.room))

  pub node_passed : (e : BuildError) → ExceedsLimit mid (32 * edges_in node.items + 36 * matches_in node.items) e →
      ExceedsLimit old (24 + 32 * bytes_in strings + 36 * length strings) e
  node_passed e p = omega (arith, so_far.weighs, node_fits, p)

  module _ (grown : Assembly) (id : ℕ) (adds : AddsNode mid grown names end node.items id) where
    longer : length mid.drafts ≤ length grown.drafts
    longer = adds.grows.longer

    partly : Partly true old grown
    partly = partly_joined so_far.partly (record { grows = adds.grows; tame = adds.tame })

    id_in : IsThere old grown id
    id_in = let a = so_far.end_is in let b = so_far.longer in let g = longer in
        ⊎_elim (λ (e : id ≡ end). (omega arith, omega arith)) (λ (n : (length mid.drafts ≤ id) × (id < length grown.drafts)). let l = n.0 in
        (omega arith, n.1)) adds.there

    pub stem_refused : (new : Assembly) (e : BuildError) → Quits grown new (length node.stem) e → Quits old new (1 + 2 * bytes_in strings) e
    stem_refused new e r =
        let spent : Spent old grown (1 + 2 * weight_in_all (drop (k + 1) nodes) + 2 * edges_in node.items) = record {
          settings = partly.grows.settings;
          longer = partly.grows.longer;
          states = omega (arith, so_far.states, adds.states);
          bytes = omega (arith, so_far.bytes, adds.bytes);
        } in
        quits_later (1 + 2 * bytes_in strings) spent r (omega (arith, weight_now, weight_left nodes k, so_far.trie.room))

    pub stem_passed : (e : BuildError) → ExceedsLimit grown (24 * length node.stem) e →
        ExceedsLimit old (24 + 32 * bytes_in strings + 36 * length strings) e
    stem_passed e p = omega (arith, so_far.weighs, adds.weighs, node_fits, p)

    module _ (new : Assembly) (start : ℕ) (text : AddsText grown new id node.stem start) (names2 : List ℕ)
        (names_are : names2 ≡ set names k start) where
      all_longer : length grown.drafts ≤ length new.drafts
      all_longer = text.grows.longer

      start_in : IsThere old new start
      start_in = let i = id_in.0 in let j = id_in.1 in let g = all_longer in let p = partly.grows.longer in
          ⊎_elim (λ (e : start ≡ id). (omega arith, omega arith)) (λ (n : (length grown.drafts ≤ start) × (start < length new.drafts)).
          let l = n.0 in (omega arith, n.1)) text.there

      older : (table : Table) → HasOthers old new table → HasOthers old mid table
      older table has q l h = has q l (omega (arith, longer, all_longer)) ∙ text.grows.same q (omega (arith, longer)) ∙ adds.grows.same q h

      items_have : (table : Table) → HasOthers old new table → (q : ℕ) → length mid.drafts ≤ q → q < length grown.drafts →
          table q ≡ draft_at grown.drafts q
      items_have table has q l h = has q (omega (arith, so_far.longer)) (omega (arith, all_longer)) ∙ text.grows.same q h

      text_has : (table : Table) → HasOthers old new table → (q : ℕ) → length grown.drafts ≤ q → q < length new.drafts →
          table q ≡ draft_at new.drafts q
      text_has table has q l h = has q (omega (arith, so_far.longer, longer)) h

      behind : (table : Table) → HasOthers old new table → Denotes old.reverse table id end (literals old.reverse has_strings.rest)
      behind table has =
          let P : Bool → Type 0 = λ back. (x : ℕ → Tree) → IsLed back table end (k + 1) names x →
          Denotes back table id end (alternation (item_trees back names x node.items)) in
          let chunks : AreChunks (k + 1) (length names) node.items = are_wider (k + 1) (length so_far.trie.groups) (k + 1)
          (length names) node.items has_strings.holds.chunks (omega arith) (omega (arith, so_far.names_long, so_far.trie.as_many)) in
          let all = subst P back_same (adds.denotes table (items_have table has) (k + 1) chunks) in
          denotes_node old.reverse table id end names so_far.trie.groups node.items has_strings.rest has_strings.holds.like
          (all (node_tree old.reverse so_far.trie.groups) (λ n l h. so_far.denotes table (older table has) n l (omega (
            arith,
            so_far.names_long,
          ))))

      own : (table : Table) → HasOthers old new table → Denotes old.reverse table start end
          (literals old.reverse (get_or so_far.trie.groups k []))
      own table has =
          let P : List (List ℕ) → Type 0 = λ ws. Denotes old.reverse table start end (literals old.reverse ws) in
          subst P has_strings.is (text.denotes old.reverse table (text_has table has) end has_strings.rest (behind table has))

      pub node_compiled : TrieTo old new end nodes strings names2 k
      node_compiled =
          let g = longer in let h = all_longer in
          record {
            trie = so_far.trie;
            within = omega arith;
            end_is = so_far.end_is;
            partly = partly_joined partly (record { grows = text.grows; tame = text.tame });
            groups = text.groups ∙ adds.groups ∙ so_far.groups;
            here = text.grows.same end (omega (arith, end_below)) ∙ adds.grows.same end end_below ∙ so_far.here;
            longer = omega (arith, so_far.longer);
            states = omega (arith, so_far.states, adds.states, text.states, weight_now);
            bytes = omega (arith, so_far.bytes, adds.bytes, text.bytes);
            weighs = omega (arith, so_far.weighs, adds.weighs, text.weighs, weight_now, matches_now);
            numbered = text.numbered (adds.numbered so_far.numbered);
            stands = λ q l m. ⊎_elim
                (λ (b : q < length mid.drafts). ap stands_for (text.grows.same q (omega arith) ∙ adds.grows.same q b) ∙ so_far.stands q l b)
                (λ (b : length mid.drafts ≤ q). ⊎_elim
                (λ (c : q < length grown.drafts). ap stands_for (text.grows.same q c) ∙ adds.stands q b c)
                (λ (c : length grown.drafts ≤ q). text.stands q c m)
                (cases_lt q (length grown.drafts)))
                (cases_lt q (length mid.drafts));
            names_long = ap length names_are ∙ length-set names k start ∙ so_far.names_long;
            names_there =
                let P : List ℕ → Type 0 = All (IsThere old new) in
                subst P (sym names_are) (set_there (IsThere old new) names k start
                (All-weaker (IsThere old mid) (IsThere old new) (λ q t. let n = t.1 in
                (t.0, omega arith)) names so_far.names_there) start_in);
            denotes = λ table has n l m.
                let P : List ℕ → Type 0 = λ ns. Denotes old.reverse table (get_or ns n 0) end
                (literals old.reverse (get_or so_far.trie.groups n [])) in
                let Q : ℕ → Type 0 = λ q. Denotes old.reverse table q end (literals old.reverse (get_or so_far.trie.groups n [])) in
                subst P (sym names_are) (⊎_elim
                (λ (e : n ≡ k).
                let R : ℕ → Type 0 = λ j. Denotes old.reverse table (get_or (set names k start) j 0) end
                (literals old.reverse (get_or so_far.trie.groups j [])) in
                let S : ℕ → Type 0 = λ q. Denotes old.reverse table q end (literals old.reverse (get_or so_far.trie.groups k [])) in
                subst R (sym e) (subst S (sym (get_or-set_same names k start 0 (omega (arith, so_far.names_long, less)))) (own table has)))
                (λ (ne : n ≡ k → ⊥). subst Q (sym (get_or-set_other names k n start 0 ne))
                (so_far.denotes table (older table has) n (omega arith) m))
                (cases_eq n k));
          }

module _ (old mid : Assembly) (end : ℕ) (nodes : List NodeValue) (strings : List (List ℕ)) (names : List ℕ)
    (all : TrieTo old mid end nodes strings names 0) (start : ℕ) (start_is : get_or names 0 0 ≡ start) where
  start_there : IsThere old mid start
  start_there = let P : ℕ → Type 0 = IsThere old mid in subst P start_is
      (all.names_there 0 0 (omega (arith, all.names_long, all.trie.some)))

  progress : Progress true old mid (1 + 2 * weight_in_all nodes) 8
  progress = record { partly = all.partly; states = omega (arith, all.states); bytes = all.bytes; numbered = all.numbered }

  ends_on : (table : Table) (target : ℕ) → Finished (length old.drafts) mid.drafts end target table → table end ≡ empty_draft target
  ends_on table target fin = fin.led ∙ ap (patched target) all.here

  pub trie_made : Makes old mid start end (1 + 2 * bytes_in strings)
  trie_made =
      let e = all.end_is in let l = all.longer in
      made (1 + 2 * bytes_in strings) progress (omega arith) (omega (arith, all.trie.room)) start_there.0 start_there.1 (omega arith)
      (omega arith) (ap is_sparse all.here)
      (λ table target fin q low high.
      ⊎_elim
      (λ (same : q ≡ end). let P : ℕ → Type 0 = λ n. ComesOut table target n in
      subst P (sym same) (out_next table target end target (ap stands_for (ends_on table target fin)) (out_at table target)))
      (λ (ne : q ≡ end → ⊥). out_here table target q (ap stands_for (fin.states q low high ne) ∙ all.stands q (omega arith) high))
      (cases_eq q end))

  pub trie_does : Does old mid start end (literals old.reverse strings)
  trie_does = record {
    denotes = λ table target fin.
        let P : ℕ → Type 0 = λ s. Denotes old.reverse table s end (literals old.reverse strings) in
        let Q : List (List ℕ) → Type 0 = λ ws. Denotes old.reverse table (get_or names 0 0) end (literals old.reverse ws) in
        let has : HasOthers old mid table = λ q l h. fin.states q (omega arith) h (λ (same : q ≡ end). omega (arith, all.end_is)) in
        denotes_then_empty old.reverse table start end target (literals old.reverse strings)
        (subst P start_is (subst Q all.trie.root (all.denotes table has 0 (omega arith) (omega (arith, all.trie.some)))))
        (denotes_empty old.reverse table end target (ends_on table target fin));
    looks = adds_none old.reverse (literals old.reverse strings) old mid (quiet_plain all.partly.grows all.partly.tame)
        (λ l. uses_literals old.reverse old.reverse l strings);
  }

same_got : {V : Type 0} (xs : List V) (k : ℕ) (c d : V) → k < length xs → get_or xs k c ≡ get_or xs k d
same_got [] k c d l = absurd (omega arith)
same_got (x ∷ xs) zero c d l = refl
same_got (x ∷ xs) (suc k) c d l = same_got xs k c d (omega arith)

-- the node that is next, in a list of rows
module _ {V : Type 0} (value_of : V → NodeValue) (rows : List V) (old mid : Assembly) (end : ℕ) (strings : List (List ℕ))
    (names now : List ℕ) (m k : ℕ) (so_far : TrieTo old mid end (map value_of rows) strings names m) (some : 1 ≤ m)
    (turn : k ≡ m - 1) (v : V) (got : v ≡ get_or rows k v) (row : List (List Edge)) (row_is : row ≡ (value_of v).items)
    (now_is : now ≡ names) where
  next : TrieTo old mid end (map value_of rows) strings names (k + 1)
  next = let P : ℕ → Type 0 = λ n. TrieTo old mid end (map value_of rows) strings names n in let e : m ≡ k + 1 = omega arith in
      subst P e so_far

  less : k < length (map value_of rows)
  less = let w = so_far.within in omega arith

  here : get_or (map value_of rows) k no_node ≡ value_of v
  here = get_or-map value_of rows k v no_node (omega (arith, less, length-map rows value_of)) ∙ ap value_of (sym got)

  pub turn_some : 1 ≤ length row
  turn_some = omega (arith, ap length row_is, node_some old mid end (map value_of rows) strings names k next less (value_of v) here)

  pub turn_few : length row ≤ 2 * chunks_in row + 1
  turn_few =
      let P : List (List Edge) → Type 0 = λ is. length is ≤ 2 * chunks_in is + 1 in
      subst P (sym row_is) (node_few old mid end (map value_of rows) strings names k next less (value_of v) here)

  pub turn_chunks : AreChunks 0 (length now) row
  turn_chunks =
      let P : List ℕ → Type 0 = λ ns. AreChunks 0 (length ns) row in
      let Q : List (List Edge) → Type 0 = λ is. AreChunks 0 (length names) is in
      subst P (sym now_is) (subst Q (sym row_is) (node_chunks old mid end (map value_of rows) strings names k next less (value_of v) here))

  pub turn_refused : (new : Assembly) (e : BuildError) → Quits mid new (2 * edges_in row) e → Quits old new (1 + 2 * bytes_in strings) e
  turn_refused new e r =
      let P : List (List Edge) → Type 0 = λ is. Quits mid new (2 * edges_in is) e in
      node_refused old mid end (map value_of rows) strings names k next less (value_of v) here new e (subst P row_is r)

  pub turn_parted : length row ≤ 2 * matches_in row + 1
  turn_parted =
      let P : List (List Edge) → Type 0 = λ is. length is ≤ 2 * matches_in is + 1 in
      subst P (sym row_is) (node_parted old mid end (map value_of rows) strings names k next less (value_of v) here)

  pub turn_passed : (e : BuildError) → ExceedsLimit mid (32 * edges_in row + 36 * matches_in row) e →
      ExceedsLimit old (24 + 32 * bytes_in strings + 36 * length strings) e
  turn_passed e p =
      let P : List (List Edge) → Type 0 = λ is. ExceedsLimit mid (32 * edges_in is + 36 * matches_in is) e in
      node_passed old mid end (map value_of rows) strings names k next less (value_of v) here e (subst P row_is p)

  module _ (grown : Assembly) (id : ℕ) (adds : AddsNode mid grown now end row id) where
    adds_here : AddsNode mid grown names end (value_of v).items id
    adds_here =
        let P : List ℕ → Type 0 = λ ns. AddsNode mid grown ns end (value_of v).items id in
        let Q : List (List Edge) → Type 0 = λ is. AddsNode mid grown now end is id in
        subst P now_is (subst Q row_is adds)

    module _ (w : V) (got2 : w ≡ get_or rows k w) where
      stem_is : (value_of w).stem ≡ (value_of v).stem
      stem_is = ap (λ (x : V). (value_of x).stem) (got2 ∙ same_got rows k w v (omega (arith, less, length-map rows value_of)) ∙ sym got)

      pub turn_stem_refused : (new : Assembly) (e : BuildError) → Quits grown new (length (value_of w).stem) e →
          Quits old new (1 + 2 * bytes_in strings) e
      turn_stem_refused new e r =
          let P : List ℕ → Type 0 = λ t. Quits grown new (length t) e in
          stem_refused old mid end (map value_of rows) strings names k next less (value_of v) here grown id adds_here new e
          (subst P stem_is r)

      pub turn_stem_passed : (e : BuildError) → ExceedsLimit grown (24 * length (value_of w).stem) e →
          ExceedsLimit old (24 + 32 * bytes_in strings + 36 * length strings) e
      turn_stem_passed e p =
          let P : List ℕ → Type 0 = λ t. ExceedsLimit grown (24 * length t) e in
          stem_passed old mid end (map value_of rows) strings names k next less (value_of v) here grown id adds_here e (subst P stem_is p)

      pub turn_compiled : (new : Assembly) (start : ℕ) → AddsText grown new id (value_of w).stem start →
          TrieTo old new end (map value_of rows) strings (set names k start) k
      turn_compiled new start text =
          let P : List ℕ → Type 0 = λ t. AddsText grown new id t start in
          node_compiled old mid end (map value_of rows) strings names k next less (value_of v) here grown id adds_here new start
          (subst P stem_is text) (set names k start) refl

-- all nodes are compiled
module _ (old mid : Assembly) (end : ℕ) (nodes : List NodeValue) (strings : List (List ℕ)) (names : List ℕ) (k : ℕ)
    (so_far : TrieTo old mid end nodes strings names k) (none : k ≤ 0) (start : ℕ) (start_is : start ≡ get_or names 0 start) where
  all_nodes : TrieTo old mid end nodes strings names 0
  all_nodes = let P : ℕ → Type 0 = λ n. TrieTo old mid end nodes strings names n in let e : k ≡ 0 = omega arith in subst P e so_far

  first_name : (xs : List ℕ) → 1 ≤ length xs → start ≡ get_or xs 0 start → get_or xs 0 0 ≡ start
  first_name [] l e = absurd (omega arith)
  first_name (x ∷ xs) l e = sym e

  first_is : get_or names 0 0 ≡ start
  first_is = first_name names (omega (arith, so_far.names_long, so_far.trie.some)) start_is

  pub all_made : Makes old mid start end (1 + 2 * bytes_in strings)
  all_made = trie_made old mid end nodes strings names all_nodes start first_is

  pub all_does : Does old mid start end (literals old.reverse strings)
  all_does = trie_does old mid end nodes strings names all_nodes start first_is
