-- The bytes of an automaton's states are no more than those of the builder's states.
use Rattle.std.proofs.Common.{◌≡◌, ℕ, ◌+◌, ◌*◌, ◌≤◌, true, false, Bool, List, [], ◌∷◌, length, map, arith, sym, subst, Option, None, Some}
use Rattle.std.specs.Prelude.{reverse, MatchOption, ⊤, if◌then◌else◌}
use Rattle.std.specs.List.{sum_by}
use Rattle.std.proofs.lemmas.List.{length-map, length-reverse}
use Rattle.std.proofs.lemmas.List.Sums.{sum_by-cons}
use Rattle.search_types.specs.Groups.{Groups}
use Rattle.nfa_core.specs.NfaValue.{Nfa, memory_of}
use Rattle.nfa_core.specs.NfaOf.{nfa_of}
use Rattle.nfa_core.specs.InOrder.{IsInOrder}
use Rattle.nfa_core.specs.States.{node_memory}
use Rattle.nfa_core.specs.BuilderStates.{DraftNode, empty_draft, range_draft, sparse_draft, look_draft, capture_start_draft}
use Rattle.nfa_core.specs.BuilderStates.{capture_end_draft, union_draft, union_reverse_draft, fail_draft, match_draft, draft_bytes}
use Rattle.nfa_core.specs.BuilderStates.{bytes_of_drafts, Assembly, pattern_count}
use Rattle.nfa_core.specs.Renaming.{kept, new_name, renamed, ways_node, ranges_node, automaton_of}
use Rattle.nfa_core.proofs.BuildLemmas.{range_named}
use Rattle.nfa_core.proofs.NamingLemmas.{is_kept}

ways_bytes : (names : List ℕ) → node_memory (ways_node names) ≤ 24 + 4 * length names
ways_bytes [] = omega arith
ways_bytes (first ∷ []) = omega arith
ways_bytes (first ∷ second ∷ []) = omega arith
ways_bytes (first ∷ second ∷ third ∷ others) = omega arith

ranges_bytes : (ranges : List (ℕ × ℕ × ℕ)) → node_memory (ranges_node ranges) ≤ 24 + 8 * length ranges
ranges_bytes [] = omega arith
ranges_bytes (range ∷ []) = omega arith
ranges_bytes (range ∷ other ∷ others) = omega arith

-- a state needs no more bytes
one_smaller : (name : ℕ → ℕ) (groups : Groups) (draft : DraftNode) → node_memory (renamed name groups draft) ≤ draft_bytes draft
one_smaller name groups (empty_draft next) = omega arith
one_smaller name groups (range_draft low high next) = omega arith
one_smaller name groups (sparse_draft ranges) = let h = ranges_bytes (map (range_named name) ranges) in let e =
    length-map ranges (range_named name) in omega (arith, h, e)
one_smaller name groups (look_draft look next) = omega arith
one_smaller name groups (capture_start_draft pattern group next) = omega arith
one_smaller name groups (capture_end_draft pattern group next) = omega arith
one_smaller name groups (union_draft names) = let h = ways_bytes (map name names) in let e = length-map names name in omega (arith, h, e)
one_smaller name groups (union_reverse_draft names) =
    let h = ways_bytes (map name (reverse names)) in let e = length-map (reverse names) name in let f = length-reverse names in
    omega (arith, h, e, f)
one_smaller name groups fail_draft = omega arith
one_smaller name groups (match_draft pattern) = omega arith

kept_smaller : (name : ℕ → ℕ) (groups : Groups) (draft : DraftNode) (drafts : List DraftNode) →
    sum_by node_memory (map (renamed name groups) (kept drafts)) ≤ sum_by draft_bytes drafts → (kept_too : Bool) →
    sum_by node_memory (map (renamed name groups) (if kept_too then draft ∷ kept drafts else kept drafts)) ≤ sum_by draft_bytes
    (draft ∷ drafts)
kept_smaller name groups draft drafts rest true =
    let h = one_smaller name groups draft in
    let e = sum_by-cons node_memory (renamed name groups draft) (map (renamed name groups) (kept drafts)) in
    let f = sum_by-cons draft_bytes draft drafts in omega (arith, rest, h, e, f)
kept_smaller name groups draft drafts rest false = let f = sum_by-cons draft_bytes draft drafts in omega (arith, rest, f)

all_smaller : (name : ℕ → ℕ) (groups : Groups) (drafts : List DraftNode) →
    sum_by node_memory (map (renamed name groups) (kept drafts)) ≤ sum_by draft_bytes drafts
all_smaller name groups [] = omega arith
all_smaller name groups (draft ∷ drafts) = kept_smaller name groups draft drafts (all_smaller name groups drafts) (is_kept draft)

pub smaller : (b : Assembly) (anchored unanchored : ℕ) → memory_of (automaton_of b anchored unanchored).states ≤ bytes_of_drafts b.drafts
smaller b anchored unanchored = let h = all_smaller (new_name b.drafts) b.groups b.drafts in omega (arith, h)

limit_kept_below : (limit : Option ℕ) (less more : ℕ) → less ≤ more → MatchOption limit ⊤ (λ most. more ≤ most) →
    MatchOption limit ⊤ (λ most. less ≤ most)
limit_kept_below None less more below kept = tt
limit_kept_below (Some most) less more below kept = omega (arith, below, kept)

-- an automaton that is built keeps to the builder's limit
pub within_limit : (b : Assembly) (x y : ℕ) (n : Nfa) → n ≡ nfa_of b x y → IsInOrder b.drafts (pattern_count b) b.size_limit →
    MatchOption b.size_limit ⊤ (λ most. memory_of n.automaton.states ≤ most)
within_limit b x y n is order = limit_kept_below b.size_limit (memory_of n.automaton.states) (bytes_of_drafts b.drafts)
    (subst (λ (n : Nfa). memory_of n.automaton.states ≤ bytes_of_drafts b.drafts) (sym is) (smaller b x y)) order.within
