-- A builder keeps to its limit and its rules as states are added and changed, and patterns begin and end.
use Rattle.std.proofs.Common.{◌≡◌, ℕ, ◌+◌, ◌<◌, ◌≤◌, true, List, [], ◌∷◌, ◌++◌, map, length, sym, ap, subst, nat_lt, Option, None, Some}
use Rattle.std.proofs.Common.{◌∙◌, arith, length-append, if◌then◌else◌, le-ltb, refl}
use Rattle.std.specs.Prelude.{MatchOption, ⊤}
use Rattle.std.proofs.lemmas.Bool.{ltb-false, lt-ltb}
use Rattle.std.proofs.lemmas.List.{map-append, length-map, length-set}
use Rattle.std.proofs.lemmas.List.Elements.{All-push, All-set, All-get_or}
use Rattle.search_core.specs.Index.{greatest_index}
use Rattle.nfa_core.specs.BuilderStates.{DraftNode, empty_draft, range_draft, sparse_draft, look_draft, capture_start_draft}
use Rattle.nfa_core.specs.BuilderStates.{capture_end_draft, union_draft, union_reverse_draft, fail_draft}
use Rattle.nfa_core.specs.BuilderStates.{match_draft, bytes_of_drafts, patched}
use Rattle.nfa_core.specs.BuilderStates.{draft_at, patched_at}
use Rattle.nfa_core.specs.BuilderFaults.{limit_fault, index_fault, captures_refused, exceeded_size_limit}
use Rattle.search_types.specs.GroupFaults.{TooManyGroups}
use Rattle.nfa_core.specs.InOrder.{IsDraftOf, IsInOrder}

pub limit_kept : (limit : Option ℕ) (bytes : ℕ) → limit_fault limit bytes ≡ None → MatchOption limit ⊤ (λ most. bytes ≤ most)
limit_kept None bytes e = tt
limit_kept (Some most) bytes e = grind (arith, ltb-false most bytes)

-- a size within the limit is no error
pub limit_holds : (limit : Option ℕ) (bytes : ℕ) → MatchOption limit ⊤ (λ most. bytes ≤ most) → limit_fault limit bytes ≡ None
limit_holds None bytes within = refl
limit_holds (Some most) bytes within = ap (λ b. if b then Some (exceeded_size_limit most) else None) (le-ltb most bytes within)

pub order_added : {D : Type 0} (view : D → DraftNode) (old new : List D) (one : D) (patterns : ℕ) (limit : Option ℕ) →
    new ≡ old ++ one ∷ [] →
    IsInOrder (map view old) patterns limit → IsDraftOf patterns (view one) → length old ≤ greatest_index →
    limit_fault limit (bytes_of_drafts (map view old ++ view one ∷ [])) ≡ None →
    IsInOrder (map view new) patterns limit
order_added view old new one patterns limit pushed order good room within =
    let seen : map view new ≡ map view old ++ view one ∷ [] = ap (map view) pushed ∙ map-append view old (one ∷ []) in
    let len : length (map view old) ≡ length old = length-map old view in
    let more : length (map view old ++ view one ∷ []) ≡ length (map view old) + 1 = length-append (map view old) (view one ∷ []) in
    let moved : IsInOrder (map view old ++ view one ∷ []) patterns limit = record {
      within = limit_kept limit (bytes_of_drafts (map view old ++ view one ∷ [])) within;
      parts_of = All-push (IsDraftOf patterns) (map view old) (view one) order.parts_of good;
      states_numbered = omega arith;
      patterns_numbered = order.patterns_numbered;
    } in
    subst (λ (drafts : List DraftNode). IsInOrder drafts patterns limit) (sym seen) moved

draft_patched : (patterns to : ℕ) (draft : DraftNode) → IsDraftOf patterns draft → IsDraftOf patterns (patched to draft)
draft_patched patterns to (empty_draft next) good = tt
draft_patched patterns to (range_draft low high next) good = good
draft_patched patterns to (sparse_draft ranges) good = good
draft_patched patterns to (look_draft look next) good = tt
draft_patched patterns to (capture_start_draft pattern group next) good = tt
draft_patched patterns to (capture_end_draft pattern group next) good = tt
draft_patched patterns to (union_draft names) good = tt
draft_patched patterns to (union_reverse_draft names) good = tt
draft_patched patterns to fail_draft good = tt
draft_patched patterns to (match_draft pattern) good = good

pub order_patched : (old new : List DraftNode) (from to patterns : ℕ) (limit : Option ℕ) → new ≡ patched_at old from to →
    from < length old →
    IsInOrder old patterns limit → limit_fault limit (bytes_of_drafts (patched_at old from to)) ≡ None → IsInOrder new patterns limit
order_patched old new from to patterns limit e inside order within =
    let len : length (patched_at old from to) ≡ length old = length-set old from (patched to (draft_at old from)) in
    let moved : IsInOrder (patched_at old from to) patterns limit = record {
      within = limit_kept limit (bytes_of_drafts (patched_at old from to)) within;
      parts_of = All-set (IsDraftOf patterns) old from (patched to (draft_at old from)) (draft_patched patterns to (draft_at old from)
          (All-get_or (IsDraftOf patterns) old from fail_draft inside order.parts_of)) order.parts_of;
      states_numbered = omega (arith, order.states_numbered, len);
      patterns_numbered = order.patterns_numbered;
    } in
    subst (λ (drafts : List DraftNode). IsInOrder drafts patterns limit) (sym e) moved

-- an index that is too great
pub index_refused : (pattern index : ℕ) → greatest_index < index → index_fault pattern index ≡ Some
    (captures_refused (TooManyGroups pattern index))
index_refused pattern index above =
    let test : nat_lt greatest_index index ≡ true = lt-ltb greatest_index index above in
    ap (λ b. if b then Some (captures_refused (TooManyGroups pattern index)) else None) test
