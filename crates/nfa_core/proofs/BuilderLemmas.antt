-- The bytes of a builder's states as states are added and changed.
use Rattle.std.proofs.Common.{◌≡◌, ℕ, suc, ◌+◌, ◌-◌, ◌*◌, ◌<◌, ◌≤◌, min, List, [], ◌∷◌, ◌++◌, map, length, set, get_or, refl, sym, ap}
use Rattle.std.proofs.Common.{nat_lt, Option, None, if◌then◌else◌, le-ltb, false, ◌∙◌, arith, length-append, replicate}
use Rattle.std.specs.List.{sum_by}
use Rattle.std.proofs.lemmas.List.{map-set, get_or-map, map-append, length-map, append_assoc, append-nil}
use Rattle.std.proofs.Math.Seq.{map-set_same}
use Rattle.std.proofs.lemmas.List.Sums.{sum_by_push, sum_by-set}
use Rattle.search_types.specs.Groups.{Name}
use Rattle.nfa_core.specs.BuilderStates.{filled, with_name, up_to_pattern, with_group, DraftNode, empty_draft, range_draft, sparse_draft}
use Rattle.nfa_core.specs.BuilderStates.{look_draft, capture_start_draft, capture_end_draft, union_draft, union_reverse_draft, fail_draft}
use Rattle.nfa_core.specs.BuilderStates.{match_draft, draft_bytes, way_bytes, bytes_of_drafts, patched, draft_at, patched_at}

capped_sum : (m a b : ℕ) → min (min a m + min b m) m ≡ min (a + b) m
capped_sum m a b = grind arith

pub bytes_pushed : (drafts : List DraftNode) (draft : DraftNode) →
    min (bytes_of_drafts drafts + min (draft_bytes draft) 18446744073709551615) 18446744073709551615 ≡
    bytes_of_drafts (drafts ++ draft ∷ [])
bytes_pushed drafts draft =
    capped_sum 18446744073709551615 (sum_by draft_bytes drafts) (draft_bytes draft)
    ∙ ap (λ n. min n 18446744073709551615) (sym (sum_by_push draft_bytes drafts draft))

longer : (names : List ℕ) (to : ℕ) → 24 + 4 * length (names ++ to ∷ []) ≡ 24 + 4 * length names + 4
longer names to =
    let len = length-append names (to ∷ []) in
    ap (λ n. 24 + 4 * n) len ∙ grind arith

-- one more transition takes its bytes
draft_bytes_patched : (to : ℕ) (draft : DraftNode) → draft_bytes (patched to draft) ≡ draft_bytes draft + way_bytes draft
draft_bytes_patched to (empty_draft next) = refl
draft_bytes_patched to (range_draft low high next) = refl
draft_bytes_patched to (sparse_draft ranges) = grind arith
draft_bytes_patched to (look_draft look next) = refl
draft_bytes_patched to (capture_start_draft pattern group next) = refl
draft_bytes_patched to (capture_end_draft pattern group next) = refl
draft_bytes_patched to (union_draft names) = longer names to
draft_bytes_patched to (union_reverse_draft names) = longer names to
draft_bytes_patched to fail_draft = refl
draft_bytes_patched to (match_draft pattern) = refl

capped_change : (m s s' b w : ℕ) → s' + b ≡ s + (b + w) → min (min s m + w) m ≡ min s' m
capped_change m s s' b w e = grind arith

pub bytes_patched : (drafts : List DraftNode) (from to : ℕ) → from < length drafts →
    min (bytes_of_drafts drafts + way_bytes (draft_at drafts from)) 18446744073709551615 ≡ bytes_of_drafts (patched_at drafts from to)
bytes_patched drafts from to inside =
    let draft = draft_at drafts from in
    let sums = sum_by-set draft_bytes drafts from (patched to draft) fail_draft inside in
    capped_change 18446744073709551615 (sum_by draft_bytes drafts) (sum_by draft_bytes (patched_at drafts from to)) (draft_bytes draft)
    (way_bytes draft)
    (sums ∙ ap (λ n. sum_by draft_bytes drafts + n) (draft_bytes_patched to draft))

-- the states as contracts see them, with one that was patched
pub view_patched : {D : Type 0} (view : D → DraftNode) (drafts : List D) (at from to : ℕ) (old new other : D) → at ≡ from →
    from < length drafts →
    old ≡ get_or drafts from other → view new ≡ patched to (view old) → map view (set drafts at new) ≡ patched_at (map view drafts) from to
view_patched view drafts at from to old new other same inside is_old e =
    let there = get_or-map view drafts from other fail_draft inside in
    ap (λ k. map view (set drafts k new)) same ∙ map-set view drafts from new ∙ ap (λ draft. set (map view drafts) from draft)
    (e ∙ ap (λ d. patched to (view d)) is_old ∙ ap (patched to) (sym there))

pub view_kept : {D : Type 0} (view : D → DraftNode) (drafts : List D) (from : ℕ) (new other : D) →
    view new ≡ view (get_or drafts from other) → map view (set drafts from new) ≡ map view drafts
view_kept view drafts from new other e = map-set_same view drafts from new other e

pub view_at : {D : Type 0} (view : D → DraftNode) (drafts : List D) (from : ℕ) (other : D) → from < length drafts →
    draft_at (map view drafts) from ≡ view (get_or drafts from other)
view_at view drafts from other inside = get_or-map view drafts from other fail_draft inside

-- a list that is lengthened step by step
pub filled_more : {A : Type 0} (filler : A) (xs : List A) (n : ℕ) → length xs < n → filled filler (xs ++ filler ∷ []) n ≡ filled filler xs n
filled_more filler xs n short =
    let len = length-append xs (filler ∷ []) in
    let gap : n - length xs ≡ suc (n - (length xs + 1)) = omega arith in
    append_assoc xs (filler ∷ []) (replicate (n - length (xs ++ filler ∷ [])) filler)
    ∙ ap (λ l. xs ++ (filler ∷ replicate (n - l) filler)) len ∙ ap (λ k. xs ++ replicate k filler) (sym gap)

pub filled_enough : {A : Type 0} (filler : A) (xs : List A) (n : ℕ) → n ≤ length xs → filled filler xs n ≡ xs
filled_enough filler xs n long =
    let gap : n - length xs ≡ 0 = omega arith in
    ap (λ k. xs ++ replicate k filler) gap ∙ append-nil xs

-- the same list, seen through a view
pub view_filled_more : {D A : Type 0} (view : D → A) (filler : A) (old new : List D) (one : D) (n : ℕ) (goal : List A) →
    new ≡ old ++ one ∷ [] →
    view one ≡ filler → length old < n → filled filler (map view old) n ≡ goal → filled filler (map view new) n ≡ goal
view_filled_more view filler old new one n goal pushed is_filler short so_far =
    let seen = ap (map view) pushed ∙ map-append view old (one ∷ []) ∙ ap (λ a. map view old ++ a ∷ []) is_filler in
    let len = length-map old view in
    let room : length (map view old) < n = omega arith in
    ap (λ xs. filled filler xs n) seen ∙ filled_more filler (map view old) n room ∙ so_far

-- the name that comes after the fillers
pub view_named : {D : Type 0} (view : D → Option Name) (old mid new : List D) (one : D) (index : ℕ) (name : Option Name) →
    new ≡ mid ++ one ∷ [] →
    view one ≡ name → index ≤ length mid → length old ≤ index →
    filled None (map view mid) index ≡ filled None (map view old) index → map view new ≡ with_name (map view old) index name
view_named view old mid new one index name pushed is_name enough absent so_far =
    let seen = ap (map view) pushed ∙ map-append view mid (one ∷ []) ∙ ap (λ a. map view mid ++ a ∷ []) is_name in
    let len = length-map mid view in
    let old_len = length-map old view in
    let full : index ≤ length (map view mid) = omega arith in
    let none : length (map view old) ≤ index = omega arith in
    let test : nat_lt index (length (map view old)) ≡ false = le-ltb _ _ none in
    let filled_up = sym (filled_enough None (map view mid) index full) ∙ so_far in
    seen ∙ ap (λ xs. xs ++ name ∷ []) filled_up ∙ sym (ap (λ b. if b then map view old
    else (filled None (map view old) index ++ name ∷ [])) test)

-- the groups, with a change to those of one pattern
pub view_group : {D : Type 0} (view : D → List (Option Name)) (old mid : List D) (at pattern index : ℕ) (name : Option Name)
    (was now other : D) → at ≡ pattern →
    map view mid ≡ up_to_pattern (map view old) pattern → pattern < length mid → was ≡ get_or mid pattern other →
    view now ≡ with_name (view was) index name → map view (set mid at now) ≡ with_group (map view old) pattern index name
view_group view old mid at pattern index name was now other same filled_up inside is_was named =
    let there = get_or-map view mid pattern other [] inside in
    let before = sym (ap (λ groups. get_or groups pattern []) filled_up) ∙ there ∙ sym (ap view is_was) in
    ap (λ k. map view (set mid k now)) same ∙ map-set view mid pattern now ∙ ap (λ groups. set groups pattern (view now)) filled_up
    ∙ ap (λ names. set (up_to_pattern (map view old) pattern) pattern names) (named ∙ ap (λ names. with_name names index name) (sym before))
