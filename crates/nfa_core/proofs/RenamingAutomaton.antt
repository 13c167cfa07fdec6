-- The automaton that is built of a builder's states: where each kept state is in it, and where it leads.
use Rattle.std.proofs.Common.{◌≡◌, ℕ, ◌<◌, Bool, List, length, take, get_or, map, sym, ap, ◌∙◌, arith, None}
use Rattle.std.specs.Prelude.{is_none}
use Rattle.std.proofs.lemmas.List.{length-map}
use Rattle.nfa_core.specs.Nfa.{fail_node, node_at}
use Rattle.nfa_core.specs.BuilderStates.{DraftNode, fail_draft, draft_at, Assembly}
use Rattle.nfa_core.specs.Drafted.{table_ways, table_match}
use Rattle.nfa_core.specs.Ways.{Text, ways, matched, node_ways, match_of}
use Rattle.nfa_core.specs.Renaming.{stands_for, kept, new_name, renamed, automaton_of}
use Rattle.nfa_core.proofs.RenamingLemmas.{past_itself}
use Rattle.nfa_core.proofs.RenamingRanks.{rank, rank_inside, at_rank, one_rank, ranked}
use Rattle.nfa_core.proofs.RenamingNodes.{ways_renamed, match_renamed}
use Rattle.nfa_core.proofs.PassedLemmas.{is_none_of}

-- whether a state stands for itself
abbrev is_kept : DraftNode → Bool
is_kept draft = is_none (stands_for draft)

name_of_kept : (drafts : List DraftNode) (q : ℕ) → stands_for (draft_at drafts q) ≡ None → new_name drafts q ≡ rank is_kept drafts q
name_of_kept drafts q e = ap (λ p. length (kept (take p drafts))) (past_itself drafts (length drafts) q e)

pub kept_inside : (drafts : List DraftNode) (q : ℕ) → q < length drafts → stands_for (draft_at drafts q) ≡ None →
    new_name drafts q < length (kept drafts)
kept_inside drafts q inside e =
    let l : rank is_kept drafts q < length (kept drafts) = rank_inside is_kept drafts q fail_draft inside (ap is_none e) in
    let same : new_name drafts q ≡ rank is_kept drafts q = name_of_kept drafts q e in omega (arith, l, same)

pub state_inside : (b : Assembly) (x y q : ℕ) → q < length b.drafts → stands_for (draft_at b.drafts q) ≡ None →
    new_name b.drafts q < length (automaton_of b x y).states
state_inside b x y q inside e =
    let l : new_name b.drafts q < length (kept b.drafts) = kept_inside b.drafts q inside e in
    let len : length (map (renamed (new_name b.drafts) b.groups) (kept b.drafts)) ≡ length (kept b.drafts) =
    length-map (kept b.drafts) (renamed (new_name b.drafts) b.groups) in
    omega (arith, l, len)

pub state_renamed : (b : Assembly) (x y q : ℕ) → q < length b.drafts → stands_for (draft_at b.drafts q) ≡ None →
    node_at (automaton_of b x y) (new_name b.drafts q) ≡ renamed (new_name b.drafts) b.groups (draft_at b.drafts q)
state_renamed b x y q inside e =
    ap (λ k. get_or (map (renamed (new_name b.drafts) b.groups) (kept b.drafts)) k fail_node) (name_of_kept b.drafts q e)
    ∙ at_rank is_kept (renamed (new_name b.drafts) b.groups) b.drafts q fail_draft fail_node inside (ap is_none e)

pub one_state : (drafts : List DraftNode) (p q : ℕ) → p < length drafts → q < length drafts → stands_for (draft_at drafts p) ≡ None →
    stands_for (draft_at drafts q) ≡ None →
    new_name drafts p ≡ new_name drafts q → p ≡ q
one_state drafts p q inside_p inside_q kept_p kept_q e =
    one_rank is_kept drafts p q fail_draft inside_p inside_q (ap is_none kept_p) (ap is_none kept_q) (sym (name_of_kept drafts p kept_p) ∙ e
    ∙ name_of_kept drafts q kept_q)

-- the kept state whose new name this is
abbrev pub Named : List DraftNode → ℕ → Type 0
Named drafts k = (q : ℕ) × (q < length drafts) × (stands_for (draft_at drafts q) ≡ None) × (new_name drafts q ≡ k)

pub state_named : (b : Assembly) (x y k : ℕ) → k < length (automaton_of b x y).states → Named b.drafts k
state_named b x y k inside =
    let len : length (map (renamed (new_name b.drafts) b.groups) (kept b.drafts)) ≡ length (kept b.drafts) =
    length-map (kept b.drafts) (renamed (new_name b.drafts) b.groups) in
    let l : k < length (kept b.drafts) = omega (arith, inside, len) in
    let r = ranked is_kept b.drafts fail_draft k l in
    let none : stands_for (draft_at b.drafts r.0) ≡ None = is_none_of (stands_for (draft_at b.drafts r.0)) r.2 in
    (r.0, r.1, none, name_of_kept b.drafts r.0 none ∙ r.3)

-- the pair under the new name
abbrev pub renamed_pair : List DraftNode → ℕ × ℕ → ℕ × ℕ
renamed_pair drafts p = (p.0, new_name drafts p.1)

pub state_ways : (b : Assembly) (x y q i : ℕ) (t : Text) → q < length b.drafts → stands_for (draft_at b.drafts q) ≡ None →
    ways (automaton_of b x y) t (i, new_name b.drafts q) ≡ map (λ p. (p.0, new_name b.drafts p.1))
    (table_ways b.reverse t (draft_at b.drafts) (i, q))
state_ways b x y q i t inside e =
    ap (λ node. node_ways b.reverse t node i) (state_renamed b x y q inside e)
    ∙ ways_renamed (new_name b.drafts) b.groups (draft_at b.drafts q) e b.reverse t i

pub state_match : (b : Assembly) (x y q i : ℕ) → q < length b.drafts → stands_for (draft_at b.drafts q) ≡ None →
    matched (automaton_of b x y) (i, new_name b.drafts q) ≡ table_match (draft_at b.drafts) (i, q)
state_match b x y q i inside e =
    ap (λ node. match_of node i) (state_renamed b x y q inside e) ∙ match_renamed (new_name b.drafts) b.groups (draft_at b.drafts q) i
