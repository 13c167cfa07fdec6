-- The states of a trie's nodes: what the items of a node add.
use Rattle.std.proofs.Common.{◌≡◌, ◌⊎◌, inl, inr, ℕ, zero, suc, ◌+◌, ◌*◌, ◌<◌, ◌≤◌, Bool, List, [], ◌∷◌, ◌++◌, length, get_or, None, refl}
use Rattle.std.proofs.Common.{sym, ap, ◌∙◌, subst, arith, length-append, ⊎_elim, true}
use Rattle.std.specs.Prelude.{All}
use Rattle.std.proofs.lemmas.Bool.{cases_lt}
use Rattle.std.proofs.lemmas.List.Elements.{All-push, All-weaker}
use Rattle.thompson_nfa.proofs.LiteralTries.LiteralNodeLemmas.{chunks_append, edges_append}
use Rattle.search_core.specs.Index.{greatest_index}
use Rattle.hir_core.specs.Tree.{Tree, empty, alternation}
use Rattle.nfa_core.specs.BuilderStates.{DraftNode, Assembly, AscendsFrom, draft_at, draft_bytes, sparse_draft, union_draft}
use Rattle.nfa_core.specs.CanBuild.{names_of}
use Rattle.nfa_core.specs.Drafted.{Table}
use Rattle.nfa_core.specs.Renaming.{stands_for}
use Rattle.nfa_core.specs.declared.build_error.BuildError.{BuildError}
use Rattle.thompson_nfa.specs.Added.{AddsDraft}
use Rattle.thompson_nfa.specs.Compiled.{Grows, IsTame, Weighs, sum_of_bytes}
use Rattle.thompson_nfa.specs.Denotes.{Denotes}
use Rattle.thompson_nfa.specs.LiteralGroups.{Ascends, LeadWithin}
use Rattle.thompson_nfa.specs.LiteralTries.{edges_in, chunks_in, matches_in, AreChunks}
use Rattle.thompson_nfa.specs.LiteralStates.{edge_ranges, AddsItem, AddsNode, edge_trees, item_tree, item_trees, IsLed}
use Rattle.thompson_nfa.specs.Refusals.{Stays, Quits, ExceedsLimit}
use Rattle.thompson_nfa.specs.Shared.{LeadAll}
use Rattle.thompson_nfa.specs.declared.literals.literal_groups.Edge.{Edge}
use Rattle.thompson_nfa.proofs.Walks.AheadLemmas.{denotes_alternation_one}
use Rattle.thompson_nfa.proofs.Fragments.CaseLemmas.{AllDenote, none_denote, more_denote, all_denote_push, denotes_alternation}
use Rattle.thompson_nfa.proofs.Walks.DenoteLemmas.{denotes_empty_here}
use Rattle.thompson_nfa.proofs.Steps.GrowLemmas.{Partly, partly_joined, partly_added, grows_refl, grows_trans}
use Rattle.thompson_nfa.proofs.Steps.ProgressLemmas.{step_later}
use Rattle.thompson_nfa.proofs.Classes.SharedLemmas.{denotes_branches}
use Rattle.thompson_nfa.proofs.Fragments.BranchLemmas.{union_stands}

-- ---- one chunk

pub ranges_ascend : (names : List ℕ) (low high : ℕ) (es : List Edge) → Ascends low es high → AscendsFrom low (edge_ranges names es)
ranges_ascend names low high [] a = tt
ranges_ascend names low high (e ∷ es) a = (a.0, omega arith, ranges_ascend names (e.byte + 1) high es a.2)

few_edges : (low high : ℕ) (es : List Edge) → Ascends low es high → length es + low ≤ high
few_edges low high [] a = omega (arith, a)
few_edges low high (e ∷ es) a = let b = a.0 in omega (arith, few_edges (e.byte + 1) high es a.2)

ranges_long : (names : List ℕ) (es : List Edge) → length (edge_ranges names es) ≡ length es
ranges_long names [] = refl
ranges_long names (e ∷ es) = ap (λ (n : ℕ). suc n) (ranges_long names es)

chunk_bytes : (names : List ℕ) (es : List Edge) → Ascends 0 es 256 → draft_bytes (sparse_draft (edge_ranges names es)) ≤ 2072
chunk_bytes names es a = omega (arith, few_edges 0 256 es a, ranges_long names es)

-- 24 bytes, and 8 for each edge
chunk_weighs : (names : List ℕ) (es : List Edge) → draft_bytes (sparse_draft (edge_ranges names es)) ≤ 24 + 8 * length es
chunk_weighs names es = omega (arith, ranges_long names es)

pub chunk_ascends : (names : List ℕ) (es : List Edge) (ranges : List (ℕ × ℕ × ℕ)) → Ascends 0 es 256 → ranges ≡ edge_ranges names es →
    AscendsFrom 0 ranges
chunk_ascends names es ranges a e = let P : List (ℕ × ℕ × ℕ) → Type 0 = λ l. AscendsFrom 0 l in
    subst P (sym e) (ranges_ascend names 0 256 es a)

pub bytes_of_chunk : (names : List ℕ) (es : List Edge) (ranges : List (ℕ × ℕ × ℕ)) → ranges ≡ edge_ranges names es →
    draft_bytes (sparse_draft ranges) ≤ 24 + 8 * length es
bytes_of_chunk names es ranges e = let P : List (ℕ × ℕ × ℕ) → Type 0 = λ l. draft_bytes (sparse_draft l) ≤ 24 + 8 * length es in
    subst P (sym e) (chunk_weighs names es)

-- the state names states that exist
chunk_names : (names : List ℕ) (n first : ℕ) (es : List Edge) → All (λ q. q < n) names → LeadWithin first (length names) es → (k d : ℕ) →
    k < length (names_of (sparse_draft (edge_ranges names es))) →
    get_or (names_of (sparse_draft (edge_ranges names es))) k d < n
chunk_names names n first [] all a k d l = absurd (omega arith)
chunk_names names n first (e ∷ es) all a zero d l = all e.next 0 a.1
chunk_names names n first (e ∷ es) all a (suc k) d l = chunk_names names n first es all a.2 k d (omega arith)

-- If the nodes to which edges lead do what trees mean, the chunk does what the alternation of these trees after their bytes means.
lead_edges : (back : Bool) (T : Table) (end first : ℕ) (names : List ℕ) (x : ℕ → Tree) (es : List Edge) → IsLed back T end first names x →
    LeadWithin first (length names) es →
    LeadAll back T end (edge_ranges names es) (edge_trees x es)
lead_edges back T end first names x [] led a = tt
lead_edges back T end first names x (e ∷ es) led a = (led e.next a.0 a.1, lead_edges back T end first names x es led a.2)

-- ---- items one after the other

-- the common end, or one of the states that were added
abbrev pub IsWay : Assembly → Assembly → ℕ → ℕ → Type 0
IsWay old mid end q = (q ≡ end) ⊎ ((length old.drafts ≤ q) × (q < length mid.drafts))

-- the table has the states that were added
abbrev pub HasStates : Assembly → Assembly → Table → Type 0
HasStates old mid table = (q : ℕ) → length old.drafts ≤ q → q < length mid.drafts → table q ≡ draft_at mid.drafts q

-- the items so far, each with the state by which it is entered
pub record ItemsTo (old mid : Assembly) (names : List ℕ) (end : ℕ) (items : List (List Edge)) (ways : List ℕ) : Type 0 where
  pub partly : Partly true old mid
  pub groups : mid.groups ≡ old.groups
  pub ways_long : length ways ≡ length items
  pub states : length mid.drafts ≡ length old.drafts + chunks_in items
  pub bytes : sum_of_bytes mid + 8 * chunks_in items + 4096 * length old.drafts ≤ sum_of_bytes old + 4096 * length mid.drafts
  pub weighs : Weighs old mid (24 * chunks_in items + 8 * edges_in items)
  pub numbered : length old.drafts ≤ greatest_index + 1 → length mid.drafts ≤ greatest_index + 1
  pub stands : (q : ℕ) → length old.drafts ≤ q → q < length mid.drafts → stands_for (draft_at mid.drafts q) ≡ None
  pub there : All (IsWay old mid end) ways
  pub denotes : (table : Table) → HasStates old mid table → (first : ℕ) → AreChunks first (length names) items → (x : ℕ → Tree) →
      IsLed old.reverse table end first names x →
      AllDenote old.reverse table end ways (item_trees old.reverse names x items)

trees_append : (back : Bool) (names : List ℕ) (x : ℕ → Tree) (is js : List (List Edge)) →
    item_trees back names x (is ++ js) ≡ item_trees back names x is ++ item_trees back names x js
trees_append back names x [] js = refl
trees_append back names x (i ∷ is) js = ap (λ (l : List Tree). item_tree back names x i ∷ l) (trees_append back names x is js)

chunks_before : (first end : ℕ) (is js : List (List Edge)) → AreChunks first end (is ++ js) → AreChunks first end is
chunks_before first end [] js a = tt
chunks_before first end (i ∷ is) js a = (a.0, a.1, chunks_before first end is js a.2)

chunks_behind : (first end : ℕ) (is js : List (List Edge)) → AreChunks first end (is ++ js) → AreChunks first end js
chunks_behind first end [] js a = a
chunks_behind first end (i ∷ is) js a = chunks_behind first end is js a.2

pub no_items : (old : Assembly) (names : List ℕ) (end : ℕ) (items : List (List Edge)) (ways : List ℕ) → items ≡ [] → ways ≡ [] →
    ItemsTo old old names end items ways
no_items old names end items ways no_item no_way =
    let P : List (List Edge) → Type 0 = λ is. ItemsTo old old names end is ways in
    let Q : List ℕ → Type 0 = λ ws. ItemsTo old old names end [] ws in
    subst P (sym no_item) (subst Q (sym no_way) (record {
      partly = record { grows = grows_refl old; tame = λ q l h. absurd (omega arith) };
      groups = refl;
      ways_long = refl;
      states = omega arith;
      bytes = omega arith;
      weighs = omega arith;
      numbered = λ l. l;
      stands = λ q l h. absurd (omega arith);
      there = λ k d l. absurd (omega arith);
      denotes = λ table has first chunks x led. none_denote;
    }))

module _ (old mid : Assembly) (names : List ℕ) (end : ℕ) (items : List (List Edge)) (ways : List ℕ)
    (so_far : ItemsTo old mid names end items ways) where
  match_added : ItemsTo old mid names end (items ++ [] ∷ []) (ways ++ end ∷ [])
  match_added =
      let none : chunks_in (items ++ [] ∷ []) ≡ chunks_in items = omega (arith, chunks_append items ([] ∷ [])) in
      record {
        partly = so_far.partly;
        groups = so_far.groups;
        ways_long = omega (arith, so_far.ways_long, length-append ways (end ∷ []), length-append items ([] ∷ []));
        states = omega (arith, none, so_far.states);
        bytes = omega (arith, none, so_far.bytes);
        weighs = omega (arith, none, so_far.weighs, edges_append items ([] ∷ []));
        numbered = so_far.numbered;
        stands = so_far.stands;
        there = All-push (IsWay old mid end) ways end so_far.there (inl refl);
        denotes = λ table has first chunks x led.
            let P : List Tree → Type 0 = λ ts. AllDenote old.reverse table end (ways ++ end ∷ []) ts in
            subst P (sym (trees_append old.reverse names x items ([] ∷ [])))
            (all_denote_push old.reverse table end end empty ways (item_trees old.reverse names x items)
            (so_far.denotes table has first (chunks_before first (length names) items ([] ∷ []) chunks) x led)
            (denotes_empty_here old.reverse table end));
      }

  module _ (new : Assembly) (id : ℕ) (e : Edge) (es : List Edge) (added : AddsDraft mid new id
      (sparse_draft (edge_ranges names (e ∷ es))) mid.groups) (names_there : All (λ q. q < length old.drafts) names)
      (inside : LeadWithin 0 (length names) (e ∷ es)) (ascends : Ascends 0 (e ∷ es) 256) where
    abbrev draft : DraftNode
    draft = sparse_draft (edge_ranges names (e ∷ es))

    one : chunks_in (items ++ (e ∷ es) ∷ []) ≡ chunks_in items + 1
    one = chunks_append items ((e ∷ es) ∷ [])

    tame : IsTame true new draft
    tame = record {
      named = chunk_names names (length new.drafts) 0 (e ∷ es) (All-weaker (λ q. q < length old.drafts) (λ q. q < length new.drafts)
          (λ q l. omega (arith, added.size, so_far.states)) names names_there) inside;
      known = refl;
      not_barred = refl;
    }

    older : (table : Table) → HasStates old new table → HasStates old mid table
    older table has q l h = has q l (omega (arith, added.size)) ∙ added.grows.same q h

    chunk_added : ItemsTo old new names end (items ++ (e ∷ es) ∷ []) (ways ++ id ∷ [])
    chunk_added =
        let is = added.is in let size = added.size in let low = so_far.states in
        record {
          partly = partly_joined so_far.partly (partly_added added tame);
          groups = added.groups_are ∙ so_far.groups;
          ways_long = omega (arith, so_far.ways_long, length-append ways (id ∷ []), length-append items ((e ∷ es) ∷ []));
          states = omega (arith, one);
          bytes = omega (arith, one, so_far.bytes, added.bytes, chunk_bytes names (e ∷ es) ascends);
          weighs = omega (
            arith,
            one,
            so_far.weighs,
            added.bytes,
            chunk_weighs names (e ∷ es),
            edges_append items ((e ∷ es) ∷ []),
          );
          numbered = λ l. added.numbered;
          stands = λ q l h. ⊎_elim
              (λ (k : q < length mid.drafts). ap stands_for (added.grows.same q k) ∙ so_far.stands q l k)
              (λ (k : length mid.drafts ≤ q). let same : id ≡ q = omega arith in let P : ℕ →
              Type 0 = λ j. stands_for (draft_at new.drafts j) ≡ None in subst P same (ap stands_for added.here))
              (cases_lt q (length mid.drafts));
          there = All-push (IsWay old new end) ways id
              (All-weaker (IsWay old mid end) (IsWay old new end) (λ q w. ⊎_elim (λ (s : q ≡ end). inl s)
              (λ (n : (length old.drafts ≤ q) × (q < length mid.drafts)). let a = n.1 in inr (n.0, omega arith)) w) ways so_far.there)
              (inr (omega arith, omega arith));
          denotes = λ table has first chunks x led.
              let P : List Tree → Type 0 = λ ts. AllDenote old.reverse table end (ways ++ id ∷ []) ts in
              let here = chunks_behind first (length names) items ((e ∷ es) ∷ []) chunks in
              subst P (sym (trees_append old.reverse names x items ((e ∷ es) ∷ [])))
              (all_denote_push old.reverse table end id (item_tree old.reverse names x (e ∷ es)) ways (item_trees old.reverse names x items)
              (so_far.denotes table (older table has) first (chunks_before first (length names) items ((e ∷ es) ∷ []) chunks) x led)
              (denotes_branches old.reverse table id end (edge_ranges names (e ∷ es)) (edge_trees x (e ∷ es))
              (has id (omega arith) (omega arith) ∙ added.here) (ranges_ascend names 0 256 (e ∷ es) here.0)
              (lead_edges old.reverse table end first names x (e ∷ es) led here.1)));
        }

  pub item_added : (new : Assembly) (id : ℕ) (item : List Edge) → AddsItem mid new names end item id →
      All (λ q. q < length old.drafts) names → LeadWithin 0 (length names) item → Ascends 0 item 256 →
      ItemsTo old new names end (items ++ item ∷ []) (ways ++ id ∷ [])
  item_added new id [] a there inside ascends =
      let P : Assembly → Type 0 = λ b. ItemsTo old b names end (items ++ [] ∷ []) (ways ++ id ∷ []) in
      let Q : ℕ → Type 0 = λ q. ItemsTo old mid names end (items ++ [] ∷ []) (ways ++ q ∷ []) in
      subst P (sym a.0) (subst Q (sym a.1) match_added)
  item_added new id (e ∷ es) a there inside ascends = chunk_added new id e es a there inside ascends

-- ---- all items

chunks_edges : (items : List (List Edge)) → chunks_in items ≤ edges_in items
chunks_edges [] = omega arith
chunks_edges ([] ∷ is) = omega (arith, chunks_edges is)
chunks_edges ((e ∷ es) ∷ is) = omega (arith, chunks_edges is)

only_one : (back : Bool) (T : Table) (end : ℕ) (ways : List ℕ) (ts : List Tree) → length ways ≡ 1 → AllDenote back T end ways ts →
    Denotes back T (get_or ways 0 0) end (alternation ts)
only_one back T end _ _ l none_denote = absurd (omega arith)
only_one back T end _ _ l (more_denote q x [] [] d none_denote) = denotes_alternation_one back T q end x d
only_one back T end _ _ l (more_denote q x (p ∷ qs) xs d ds) = absurd (omega arith)
only_one back T end _ _ l (more_denote q x [] (y ∷ ys) d ds) = elim ds [ ]

module _ (old mid : Assembly) (names : List ℕ) (end : ℕ) (items : List (List Edge)) (ways : List ℕ)
    (so_far : ItemsTo old mid names end items ways) (few : length items ≤ 2 * chunks_in items + 1)
    (parted : length items ≤ 2 * matches_in items + 1) where
  pub one_item : length ways ≡ 1 → AddsNode old mid names end items (get_or ways 0 0)
  one_item one = record {
    grows = so_far.partly.grows;
    groups = so_far.groups;
    states = omega (arith, so_far.states, chunks_edges items);
    bytes = omega (arith, so_far.bytes);
    weighs = omega (arith, so_far.weighs, chunks_edges items);
    numbered = so_far.numbered;
    tame = so_far.partly.tame;
    stands = so_far.stands;
    there = so_far.there 0 0 (omega (arith, one));
    denotes = λ table has first chunks x led. only_one old.reverse table end ways (item_trees old.reverse names x items) one
        (so_far.denotes table has first chunks x led);
  }

  module _ (new : Assembly) (id : ℕ) (two : 2 ≤ length ways) (end_there : end < length old.drafts)
      (added : AddsDraft mid new id (union_draft ways) mid.groups) where
    some_chunk : 1 ≤ chunks_in items
    some_chunk = omega (arith, so_far.ways_long)

    union_tame : IsTame true new (union_draft ways)
    union_tame = record {
      named = All-weaker (IsWay old mid end) (λ q. q < length new.drafts)
          (λ q w. let a = so_far.states in let b = added.size in ⊎_elim (λ (s : q ≡ end). omega arith)
          (λ (n : (length old.drafts ≤ q) × (q < length mid.drafts)). let h = n.1 in omega arith) w) ways so_far.there;
      known = refl;
      not_barred = refl;
    }

    union_older : (table : Table) → HasStates old new table → HasStates old mid table
    union_older table has q l h = has q l (omega (arith, added.size)) ∙ added.grows.same q h

    pub more_items : AddsNode old new names end items id
    more_items =
        let is = added.is in let size = added.size in let low = so_far.states in
        let all = partly_joined so_far.partly (partly_added added union_tame) in
        record {
          grows = all.grows;
          groups = added.groups_are ∙ so_far.groups;
          states = omega (arith, chunks_edges items, some_chunk);
          bytes = omega (arith, so_far.bytes, added.bytes, so_far.ways_long);
          weighs = omega (arith, so_far.weighs, added.bytes, so_far.ways_long, chunks_edges items, parted);
          numbered = λ l. added.numbered;
          tame = all.tame;
          stands = λ q l h. ⊎_elim
              (λ (k : q < length mid.drafts). ap stands_for (added.grows.same q k) ∙ so_far.stands q l k)
              (λ (k : length mid.drafts ≤ q). let same : id ≡ q = omega arith in let P : ℕ →
              Type 0 = λ j. stands_for (draft_at new.drafts j) ≡ None in
              subst P same (ap stands_for added.here ∙ union_stands ways two))
              (cases_lt q (length mid.drafts));
          there = inr (omega arith, omega arith);
          denotes = λ table has first chunks x led.
              denotes_alternation old.reverse table id end ways (item_trees old.reverse names x items) (has id (omega arith) (omega arith)
              ∙ added.here)
              (so_far.denotes table (union_older table has) first chunks x led);
        }

  -- adding the union fails
  pub ways_refused : (new : Assembly) (e : BuildError) → 2 ≤ length ways → Stays mid new 1 (24 + 4 * length ways) e →
      Quits old new (2 * edges_in items) e
  ways_refused new e two r =
      let m : ℕ = 2 * edges_in items in
      let some : 1 ≤ chunks_in items = omega (arith, so_far.ways_long) in
      record {
        settings = (grows_trans so_far.partly.grows (let P : Assembly → Type 0 = λ b. Grows mid b in
            subst P (sym r.same) (grows_refl mid))).settings;
        cause = step_later old mid 1 (24 + 4 * length ways) m m e (ap (λ (b : Assembly). b.size_limit) so_far.partly.grows.settings)
            (omega (arith, so_far.states, chunks_edges items, some))
            (omega (arith, so_far.bytes, so_far.states, so_far.ways_long, chunks_edges items, some)) (omega arith) r.cause;
      }

  pub ways_passed : (e : BuildError) → 2 ≤ length ways → ExceedsLimit mid (24 + 4 * length ways) e →
      ExceedsLimit old (32 * edges_in items + 36 * matches_in items) e
  ways_passed e two p = omega (arith, so_far.weighs, so_far.ways_long, chunks_edges items, parted, p)

-- adding the state of an item fails
module _ (old mid : Assembly) (names : List ℕ) (end : ℕ) (all items others : List (List Edge)) (item : List Edge)
    (ways : List ℕ) (so_far : ItemsTo old mid names end items ways)
    (is : all ≡ (items ++ item ∷ []) ++ others) (some : 1 ≤ length item) where
  edges : edges_in all ≡ edges_in items + length item + edges_in others
  edges = omega (arith, ap edges_in is, edges_append (items ++ item ∷ []) others, edges_append items (item ∷ []))

  pub item_refused : (new : Assembly) (e : BuildError) → Ascends 0 item 256 → Stays mid new 1 (24 + 8 * length item) e →
      Quits old new (2 * edges_in all) e
  item_refused new e up r =
      let m : ℕ = 2 * edges_in all in
      record {
        settings = (grows_trans so_far.partly.grows (let P : Assembly → Type 0 = λ b. Grows mid b in
            subst P (sym r.same) (grows_refl mid))).settings;
        cause = step_later old mid 1 (24 + 8 * length item) m m e (ap (λ (b : Assembly). b.size_limit) so_far.partly.grows.settings)
            (omega (arith, so_far.states, chunks_edges items, edges))
            (omega (arith, so_far.bytes, so_far.states, chunks_edges items, edges, few_edges 0 256 item up)) (omega arith) r.cause;
      }

  pub item_passed : (e : BuildError) → ExceedsLimit mid (24 + 8 * length item) e → ExceedsLimit old (32 * edges_in all) e
  item_passed e p = omega (arith, so_far.weighs, chunks_edges items, edges, some, p)
