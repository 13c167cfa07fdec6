-- If no group is kept, no state of the automaton that is built of a compile's states is one of a group.
use Rattle.std.proofs.Common.{◌≡◌, ℕ, ◌<◌, true, false, List, [], ◌∷◌, map, reverse, None, is_none, is_some, nat_lt, get_or, refl, ap, ◌∙◌}
use Rattle.std.proofs.Common.{subst, arith, ⊎_elim}
use Rattle.std.specs.Prelude.{All}
use Rattle.std.specs.List.{list_any}
use Rattle.std.proofs.lemmas.Bool.{cases_Bool, ltb-true}
use Rattle.std.proofs.lemmas.List.Elements.{All-map, All-filter}
use Rattle.std.proofs.lemmas.List.Folds.{list_any_none}
use Rattle.search_types.specs.Groups.{Groups, slot}
use Rattle.hir_core.specs.Tree.{Tree}
use Rattle.nfa_core.specs.NfaValue.{is_capture}
use Rattle.nfa_core.specs.BuilderStates.{DraftNode, empty_draft, range_draft, sparse_draft, look_draft, capture_start_draft}
use Rattle.nfa_core.specs.BuilderStates.{capture_end_draft, union_draft, union_reverse_draft, fail_draft, match_draft, Assembly}
use Rattle.nfa_core.specs.CanBuild.{is_known}
use Rattle.nfa_core.specs.Renaming.{stands_for, kept, new_name, ways_node, ranges_node, renamed, automaton_of}
use Rattle.thompson_nfa.specs.Configs.{Options, captures_of, is_any}
use Rattle.thompson_nfa.specs.Assembled.{IsAssembled}
use Rattle.thompson_nfa.proofs.Steps.NoGroups.{none_is_kept, no_groups_noted}

plain_ways : (names : List ℕ) → is_capture (ways_node names) ≡ false
plain_ways [] = refl
plain_ways (a ∷ []) = refl
plain_ways (a ∷ b ∷ []) = refl
plain_ways (a ∷ b ∷ c ∷ names) = refl

plain_ranges : (ranges : List (ℕ × ℕ × ℕ)) → is_capture (ranges_node ranges) ≡ false
plain_ranges [] = refl
plain_ranges ((low, high, next) ∷ []) = refl
plain_ranges ((low, high, next) ∷ r ∷ ranges) = refl

-- without groups there is no slot
no_slot : (pattern group : ℕ) → slot [] pattern group ≡ None
no_slot pattern group = ⊎_elim
    (λ (below : nat_lt group 0 ≡ true). let none : group < 0 = ltb-true group 0 below in absurd (omega arith))
    (λ (not_below : nat_lt group 0 ≡ false). rw not_below refl)
    (cases_Bool (nat_lt group 0))

unknown : (pattern group : ℕ) → is_some (slot [] pattern group) ≡ true → ⊥
unknown pattern group known = let none : is_some (slot [] pattern group) ≡ false = ap is_some (no_slot pattern group) in absurd (cc)

plain_draft : (name : ℕ → ℕ) (draft : DraftNode) → is_known [] draft ≡ true → is_capture (renamed name [] draft) ≡ false
plain_draft name (empty_draft next) known = refl
plain_draft name (range_draft low high next) known = refl
plain_draft name (sparse_draft ranges) known = plain_ranges (map (λ r. (r.0, r.1, name r.2)) ranges)
plain_draft name (look_draft look next) known = refl
plain_draft name (capture_start_draft pattern group next) known = absurd (unknown pattern group known)
plain_draft name (capture_end_draft pattern group next) known = absurd (unknown pattern group known)
plain_draft name (union_draft names) known = plain_ways (map name names)
plain_draft name (union_reverse_draft names) known = plain_ways (map name (reverse names))
plain_draft name fail_draft known = refl
plain_draft name (match_draft pattern) known = refl

plain_states : (name : ℕ → ℕ) (drafts : List DraftNode) → All (λ draft. is_known [] draft ≡ true) drafts →
    list_any is_capture (map (renamed name []) (kept drafts)) ≡ false
plain_states name drafts known =
    let P : DraftNode → Type 0 = λ draft. is_capture (renamed name [] draft) ≡ false in
    let all : All P drafts = λ k d inside. plain_draft name (get_or drafts k d) (known k d inside) in
    list_any_none is_capture (map (renamed name []) (kept drafts))
    (All-map (λ node. is_capture node ≡ false) (renamed name []) (kept drafts)
    (All-filter (λ draft. is_none (stands_for draft)) P drafts all))

pub assembled_no_captures : (o : Options) (xs : List Tree) (b : Assembly) (A U : ℕ) → IsAssembled o xs b A U →
    is_any (captures_of o) ≡ false → list_any is_capture (automaton_of b A U).states ≡ false
assembled_no_captures o xs b A U is none =
    let groups : b.groups ≡ [] = is.groups ∙ no_groups_noted (captures_of o) xs (none_is_kept (captures_of o) none) in
    let P : Groups → Type 0 = λ gs. All (λ draft. is_known gs draft ≡ true) b.drafts in
    ap (λ (gs : Groups). list_any is_capture (map (renamed (new_name b.drafts) gs) (kept b.drafts))) groups
    ∙ plain_states (new_name b.drafts) b.drafts (subst P groups is.can_build.known)
