-- The states of the automaton that is built of a compile's states: its matches, how many they are, and where it starts.
use Rattle.std.proofs.Common.{◌≡◌, ◌≢◌, ◌↔◌, ℕ, ◌<◌, ◌≤◌, List, length, take, get_or, inl, inr, ⊎_elim, Some, None, is_none, sym, ap, ◌∙◌}
use Rattle.std.proofs.Common.{arith}
use Rattle.std.proofs.lemmas.List.{length-map, get_or_past}
use Rattle.std.proofs.lemmas.List.Sums.{length-filter, count_by-le-length}
use Rattle.std.proofs.lemmas.Bool.Decides.{leb_tells}
use Rattle.std.proofs.lemmas.Option.{slice_get-get_or}
use Rattle.hir_core.specs.Tree.{Tree, empty}
use Rattle.nfa_core.specs.Nfa.{Node, fail_node, match_node, node_at}
use Rattle.nfa_core.specs.Ways.{matched, match_of}
use Rattle.nfa_core.specs.BuilderStates.{DraftNode, empty_draft, range_draft, sparse_draft, look_draft, capture_start_draft}
use Rattle.nfa_core.specs.BuilderStates.{capture_end_draft, union_draft, union_reverse_draft, fail_draft, match_draft, draft_at, Assembly}
use Rattle.nfa_core.specs.Drafted.{drafted}
use Rattle.nfa_core.specs.Renaming.{stands_for, past, kept, new_name, renamed, automaton_of}
use Rattle.nfa_core.proofs.ForCallers.{match_is, past_inside, past_stands, past_twice, past_next, one_state, state_named, state_match}
use Rattle.thompson_nfa.specs.Configs.{Options, reverse_of, is_shrunk}
use Rattle.thompson_nfa.specs.Room.{list_room}
use Rattle.thompson_nfa.specs.Compilations.{HasOneMatch}
use Rattle.thompson_nfa.specs.Assembled.{IsAssembled, AllAnchored}
use Rattle.thompson_nfa.proofs.Walks.ChoiceLemmas.{accept_count, accept_at}

-- ---- matches

draft_of_match : (draft : DraftNode) (i : ℕ) (e : ℕ × ℕ) → match_of (drafted draft) i ≡ Some e → draft ≡ match_draft e.1
draft_of_match (empty_draft next) i e h = cc
draft_of_match (range_draft low high next) i e h = cc
draft_of_match (sparse_draft ranges) i e h = cc
draft_of_match (look_draft look next) i e h = cc
draft_of_match (capture_start_draft pattern group next) i e h = cc
draft_of_match (capture_end_draft pattern group next) i e h = cc
draft_of_match (union_draft names) i e h = cc
draft_of_match (union_reverse_draft names) i e h = cc
draft_of_match fail_draft i e h = cc
draft_of_match (match_draft pattern) i e h = let one : (i, pattern) ≡ e = cc in ap (λ (w : ℕ × ℕ). match_draft w.1) one

node_of_match : (node : Node) (i p : ℕ) → match_of node i ≡ Some (i, p) → node ≡ match_node p
node_of_match node i p h =
    let m = match_is node i (i, p) h in
    let same : Some (i, m.0) ≡ Some (i, p) = ap (λ (w : Node). match_of w i) (sym m.1) ∙ h in
    let pair : (i, m.0) ≡ (i, p) = cc in
    m.1 ∙ ap (λ (w : ℕ × ℕ). match_node w.1) pair

-- a match is one of the states
pub match_inside : (drafts : List DraftNode) (q p : ℕ) → draft_at drafts q ≡ match_draft p → q < length drafts
match_inside drafts q p is = ⊎_elim
    (λ reported. let none : draft_at drafts q ≡ fail_draft = get_or_past drafts q fail_draft reported.1 in cc)
    (λ reported. reported.1) (leb_tells (length drafts) q)

node_inside : (nodes : List Node) (q p : ℕ) → get_or nodes q fail_node ≡ match_node p → q < length nodes
node_inside nodes q p is = ⊎_elim
    (λ reported. let none : get_or nodes q fail_node ≡ fail_node = get_or_past nodes q fail_node reported.1 in cc)
    (λ reported. reported.1) (leb_tells (length nodes) q)

module _ (b : Assembly) (A U p : ℕ) (one : (q r p : ℕ) → draft_at b.drafts q ≡ match_draft p → draft_at b.drafts r ≡ match_draft p →
    q ≡ r) where
  only_match : (end r : ℕ) → draft_at b.drafts end ≡ match_draft p → node_at (automaton_of b A U) r ≡ match_node p →
      r ≡ new_name b.drafts end
  only_match end r is node =
      let s = state_named b A U r (node_inside (automaton_of b A U).states r p node) in
      let same : matched (automaton_of b A U) (0, new_name b.drafts s.0) ≡ Some (0, p) =
      ap (λ (k : ℕ). matched (automaton_of b A U) (0, k)) s.3 ∙ ap (λ (n : Node). match_of n 0) node in
      let draft = draft_of_match (draft_at b.drafts s.0) 0 (0, p) (sym (state_match b A U s.0 0 s.1 s.2) ∙ same) in
      sym s.3 ∙ ap (new_name b.drafts) (one s.0 end p draft is)

  pub one_match_of : (end : ℕ) → draft_at b.drafts end ≡ match_draft p → HasOneMatch (automaton_of b A U) p
  one_match_of end is =
      let inside = match_inside b.drafts end p is in
      let stands : stands_for (draft_at b.drafts end) ≡ None = ap stands_for is in (
        new_name b.drafts end,
        node_of_match (node_at (automaton_of b A U) (new_name b.drafts end)) 0 p (state_match b A U end 0 inside stands
            ∙ ap (λ (n : DraftNode). match_of (drafted n) 0) is),
        λ r node. only_match end r is node,
      )

module _ (o : Options) (xs : List Tree) (b : Assembly) (A U : ℕ) (is : IsAssembled o xs b A U) where
  has_one_match : (p : ℕ) → p < length xs → HasOneMatch (automaton_of b A U) p
  has_one_match p inside =
      let x = get_or xs p empty in
      let a = accept_at (reverse_of o) (draft_at b.drafts) 0 b.starts xs is.accept p p x (omega arith)
      (slice_get-get_or xs p empty inside) in
      one_match_of b A U p is.one_match a.accepts.end a.accepts.matches

  -- ---- how many there are

  few_states : length (automaton_of b A U).states ≤ list_room (is_shrunk o) xs
  few_states =
      let mapped = length-map (kept b.drafts) (renamed (new_name b.drafts) b.groups) in
      let counted = length-filter (λ draft. is_none (stands_for draft)) b.drafts in
      let fewer = count_by-le-length (λ draft. is_none (stands_for draft)) b.drafts in
      let few = is.states in
      omega arith

  all_patterns : length (automaton_of b A U).start_pattern ≡ length xs
  all_patterns = length-map b.starts (new_name b.drafts) ∙ accept_count (reverse_of o) (draft_at b.drafts) 0 b.starts xs is.accept

  -- ---- starts

  one_start : AllAnchored (reverse_of o) xs → new_name b.drafts A ≡ new_name b.drafts U
  one_start all = elim is.before [
    | inl x ↦ ap (λ k. length (kept (take k b.drafts))) (sym (past_next b.drafts is.can_build.no_loop U A (ap stands_for x.1)))
    | inr x ↦ absurd (x.0 all)
  ]

  two_starts : ((AllAnchored (reverse_of o) xs → ⊥) → past b.drafts A ≢ U) → new_name b.drafts A ≡ new_name b.drafts U →
      AllAnchored (reverse_of o) xs
  two_starts apart same = elim is.before [
    | inl x ↦ x.0
    | inr x ↦
        let stands : stands_for (draft_at b.drafts U) ≡ None = ap stands_for x.1.loop in
        let can = is.can_build in
        let name : new_name b.drafts (past b.drafts A) ≡ new_name b.drafts A =
        ap (λ k. length (kept (take k b.drafts))) (past_twice b.drafts can.no_loop A can.anchored_there) in
        absurd (apart x.0 (one_state b.drafts (past b.drafts A) U (past_inside b.drafts can.named A can.anchored_there) can.unanchored_there
        (past_stands b.drafts can.no_loop A can.anchored_there) stands (name ∙ same)))
  ]

pub assembled_has_one_match : (o : Options) (xs : List Tree) (b : Assembly) (A U : ℕ) → IsAssembled o xs b A U → (p : ℕ) → p < length xs →
    HasOneMatch (automaton_of b A U) p
assembled_has_one_match o xs b A U is p inside = has_one_match o xs b A U is p inside

pub assembled_states : (o : Options) (xs : List Tree) (b : Assembly) (A U : ℕ) → IsAssembled o xs b A U →
    length (automaton_of b A U).states ≤ list_room (is_shrunk o) xs
assembled_states o xs b A U is = few_states o xs b A U is

pub assembled_patterns : (o : Options) (xs : List Tree) (b : Assembly) (A U : ℕ) → IsAssembled o xs b A U →
    length (automaton_of b A U).start_pattern ≡ length xs
assembled_patterns o xs b A U is = all_patterns o xs b A U is

-- The two starts are one if all trees are anchored. If they aren't, the premise keeps the starts apart.
pub assembled_always_anchored : (o : Options) (xs : List Tree) (b : Assembly) (A U : ℕ) → IsAssembled o xs b A U →
    ((AllAnchored (reverse_of o) xs → ⊥) → past b.drafts A ≢ U) →
    ((automaton_of b A U).start_anchored ≡ (automaton_of b A U).start_unanchored) ↔ AllAnchored (reverse_of o) xs
assembled_always_anchored o xs b A U is apart = (λ same. two_starts o xs b A U is apart same, λ all. one_start o xs b A U is all)
