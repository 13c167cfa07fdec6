-- An error of the patterns, or of building, is an error of the trees under their options.
use Rattle.std.proofs.Common.{◌≡◌, ◌⊎◌, inl, inr, ℕ, ◌+◌, ◌*◌, ◌<◌, ◌≤◌, Bool, true, false, ◌&&◌, List, [], length, nat_lt, if◌then◌else◌}
use Rattle.std.proofs.Common.{Option, Some, None, refl, sym, ap, ◌∙◌, subst, arith, ⊎_elim}
use Rattle.std.proofs.lemmas.Bool.{ltb-true, ltb-false}
use Rattle.search_core.specs.Index.{greatest_index}
use Rattle.search_types.specs.GroupFaults.{GroupFault, group_fault}
use Rattle.hir_core.specs.Tree.{Tree}
use Rattle.nfa_core.specs.BuilderStates.{Assembly}
use Rattle.nfa_core.specs.BuilderFaults.{ReportsFaultOf, BuildFault, groups_fault, build_fault, captures_refused, too_many_patterns}
use Rattle.nfa_core.specs.BuilderFaults.{too_many_states}
use Rattle.nfa_core.specs.BuilderFaults.{exceeded_size_limit, unsupported_captures}
use Rattle.nfa_core.specs.declared.build_error.BuildError.{BuildError}
use Rattle.nfa_core.specs.declared.build_error.BuildError.TheVariants as error
use Rattle.thompson_nfa.specs.Compiled.{sum_of_bytes}
use Rattle.thompson_nfa.specs.Configs.{Options, reverse_of, limit_of, captures_of, is_any, is_shrunk}
use Rattle.thompson_nfa.specs.NotedGroups.{noted_from, HasGroup}
use Rattle.thompson_nfa.specs.Patterns.{FailsPatterns, begun_with, room_for, error_under}
use Rattle.thompson_nfa.specs.Room.{list_room}
use Rattle.thompson_nfa.specs.ByteRoom.{at_most}
use Rattle.thompson_nfa.specs.Compilations.{bytes_needed}
use Rattle.thompson_nfa.specs.Refusals.{FailsIndex, ExceedsLimit}
use Rattle.thompson_nfa.specs.RefusedTrees.{RejectsTrees, FitsStates}
use Rattle.thompson_nfa.specs.declared.which_captures.WhichCaptures.{WhichCaptures}
use Rattle.thompson_nfa.specs.declared.which_captures.WhichCaptures.TheVariants as which
use Rattle.thompson_nfa.proofs.WholePatterns.AssembleLemmas.{list_fits}
use Rattle.thompson_nfa.proofs.Steps.NoGroups.{none_is_kept, no_group_kept, no_group_fault}

-- ---- if groups are kept

none_kept : (reverse : Bool) (kept : WhichCaptures) → (reverse && is_any kept) ≡ false → (reverse ≡ false) ⊎ (kept ≡ which.None)
none_kept false kept e = inl refl
none_kept true kept e = inr (none_is_kept kept e)

-- a group is kept, or the groups of trees have an error: so the automaton reads forward
forward_group : (o : Options) (index : ℕ) (x : Tree) → (reverse_of o && is_any (captures_of o)) ≡ false → HasGroup (captures_of o) index x →
    reverse_of o ≡ false
forward_group o index x captures h = ⊎_elim (λ (up : reverse_of o ≡ false). up)
    (λ (none : captures_of o ≡ which.None). absurd (no_group_kept (captures_of o) index x none h))
    (none_kept (reverse_of o) (captures_of o) captures)

forward_fault : (o : Options) (xs : List Tree) (fault : GroupFault) → (reverse_of o && is_any (captures_of o)) ≡ false →
    group_fault (noted_from (captures_of o) 0 xs []) ≡ Some fault → reverse_of o ≡ false
forward_fault o xs fault captures e = ⊎_elim (λ (up : reverse_of o ≡ false). up)
    (λ (none : captures_of o ≡ which.None). absurd (no_group_fault (captures_of o) xs fault none e))
    (none_kept (reverse_of o) (captures_of o) captures)

-- ---- patterns are rejected

too_many : (b : Bool) (o : Options) (xs : List Tree) (limit : ℕ) → b ≡ nat_lt limit (24 * (greatest_index + 1)) → limit_of o ≡ Some limit →
    greatest_index + 1 < list_room (is_shrunk o) xs → 24 * (greatest_index + 1) ≤ bytes_needed (at_most (is_shrunk o)) o xs →
    RejectsTrees o xs (if b then error.ExceededSizeLimit limit else error.TooManyStates)
too_many true o xs limit test is many bytes = let less = ltb-true limit (24 * (greatest_index + 1)) (sym test) in
    (is, omega arith, omega arith)
too_many false o xs limit test is many bytes =
    let P : Option ℕ → Type 0 = FitsStates in
    let fits : 24 * (greatest_index + 1) ≤ limit = ltb-false limit (24 * (greatest_index + 1)) (sym test) in
    (many, subst P (sym is) fits, bytes)

too_many_told : (o : Options) (xs : List Tree) (limit : Option ℕ) → limit_of o ≡ limit → greatest_index + 1 < list_room (is_shrunk o) xs →
    24 * (greatest_index + 1) ≤ bytes_needed (at_most (is_shrunk o)) o xs → RejectsTrees o xs (error_under limit error.TooManyStates)
too_many_told o xs None is many bytes = let P : Option ℕ → Type 0 = FitsStates in (many, subst P (sym is) tt, bytes)
too_many_told o xs (Some limit) is many bytes = too_many (nat_lt limit (24 * (greatest_index + 1))) o xs limit refl is many bytes

other_told : (limit : Option ℕ) (e : BuildError) → (e ≡ error.TooManyStates → ⊥) → error_under limit e ≡ e
other_told None e other = refl
other_told (Some limit) error.TooManyPatterns other = refl
other_told (Some limit) error.TooManyStates other = absurd (other refl)
other_told (Some limit) (error.ExceededSizeLimit most) other = refl
other_told (Some limit) error.UnsupportedCaptures other = refl
other_told (Some limit) (error.Captures err) other = refl
other_told (Some limit) error.NoMemory other = refl

-- the error is reported as it is
as_it_is : (o : Options) (xs : List Tree) (e : BuildError) → (e ≡ error.TooManyStates → ⊥) → RejectsTrees o xs e →
    RejectsTrees o xs (error_under (limit_of o) e)
as_it_is o xs e other r = let P : BuildError → Type 0 = λ one. RejectsTrees o xs one in subst P (sym (other_told (limit_of o) e other)) r

pub trees_refused : (o : Options) (xs : List Tree) (b : Assembly) (e : BuildError) → b ≡ begun_with o →
    (reverse_of o && is_any (captures_of o)) ≡ false →
    FailsPatterns (captures_of o) b (room_for (is_shrunk o) xs + 4) xs e → ExceedsLimit b (bytes_needed (at_most (is_shrunk o)) o xs) e →
    RejectsTrees o xs (error_under (limit_of o) e)
trees_refused o xs b error.TooManyPatterns begun captures r p = absurd r
trees_refused o xs b error.TooManyStates begun captures r p =
    let none : length b.drafts ≡ 0 = ap (λ (z : Assembly). length z.drafts) begun in
    let empty : sum_of_bytes b ≡ 0 = ap (λ (z : Assembly). sum_of_bytes z) begun in
    too_many_told o xs (limit_of o) refl (omega (arith, r, none, list_fits (is_shrunk o) xs)) (omega (arith, p, empty))
trees_refused o xs b (error.ExceededSizeLimit limit) begun captures r p =
    let none : sum_of_bytes b ≡ 0 = ap (λ (z : Assembly). sum_of_bytes z) begun in
    let is : b.size_limit ≡ limit_of o = ap (λ (z : Assembly). z.size_limit) begun in
    as_it_is o xs (error.ExceededSizeLimit limit) (λ e. cc) (
      sym is ∙ r.0,
      omega (arith, r.1, r.2, none, list_fits (is_shrunk o) xs),
      omega (arith, p, none),
    )
trees_refused o xs b error.UnsupportedCaptures begun captures r p = absurd r
trees_refused o xs b (error.Captures err) begun captures r p =
    let none : length b.starts ≡ 0 = ap (λ (z : Assembly). length z.starts) begun in
    let number : length b.starts + r.0 ≡ r.0 = omega (arith, none) in
    let P : ℕ → Type 0 = λ p. FailsIndex p r.1 err in
    as_it_is o xs (error.Captures err) (λ e. cc) (forward_group o r.1 r.2 captures r.4, inr (r.0, r.1, r.2, r.3, r.4, subst P number r.5))
trees_refused o xs b error.NoMemory begun captures r p = as_it_is o xs error.NoMemory (λ e. cc) tt

-- ---- building fails

abbrev IsOfGroups : BuildFault → Type 0
IsOfGroups (captures_refused fault) = Unit {0}
IsOfGroups _ = ⊥

of_groups : (found : Option GroupFault) (fault : BuildFault) → groups_fault found ≡ Some fault → IsOfGroups fault
of_groups None fault e = absurd (cc)
of_groups (Some one) fault e = let same : captures_refused one ≡ fault = cc in subst (λ (f : BuildFault). IsOfGroups f) same tt

same_fault : (found : Option GroupFault) (fault : GroupFault) → groups_fault found ≡ Some (captures_refused fault) → found ≡ Some fault
same_fault None fault e = absurd (cc)
same_fault (Some one) fault e = let same : one ≡ fault = cc in ap Some same

fault_refuses : (o : Options) (xs : List Tree) (b : Assembly) (e : BuildError) → b.groups ≡ noted_from (captures_of o) 0 xs [] →
    (reverse_of o && is_any (captures_of o)) ≡ false →
    ReportsFaultOf e (build_fault b) → RejectsTrees o xs e
fault_refuses o xs b error.TooManyPatterns groups captures reported = absurd (of_groups (group_fault b.groups) too_many_patterns reported)
fault_refuses o xs b error.TooManyStates groups captures reported = absurd (of_groups (group_fault b.groups) too_many_states reported)
fault_refuses o xs b (error.ExceededSizeLimit limit) groups captures reported =
    absurd (of_groups (group_fault b.groups) (exceeded_size_limit limit) reported)
fault_refuses o xs b error.UnsupportedCaptures groups captures reported = absurd (of_groups (group_fault b.groups) unsupported_captures
    reported)
fault_refuses o xs b (error.Captures err) groups captures reported =
    let is : group_fault (noted_from (captures_of o) 0 xs []) ≡ Some reported.0 =
    ap group_fault (sym groups) ∙ same_fault (group_fault b.groups) reported.0 reported.1 in
    (forward_fault o xs reported.0 captures is, inl (reported.0, is, reported.2))
fault_refuses o xs b error.NoMemory groups captures reported = tt

pub build_refused : (o : Options) (xs : List Tree) (b : Assembly) (e : BuildError) → b.groups ≡ noted_from (captures_of o) 0 xs [] →
    (reverse_of o && is_any (captures_of o)) ≡ false →
    (e ≡ error.NoMemory) ⊎ ReportsFaultOf e (build_fault b) → RejectsTrees o xs e
build_refused o xs b e groups captures reported = ⊎_elim
    (λ (none : e ≡ error.NoMemory). let P : BuildError → Type 0 = λ one. RejectsTrees o xs one in subst P (sym none) tt)
    (λ (t : ReportsFaultOf e (build_fault b)). fault_refuses o xs b e groups captures t)
    reported

-- as `trees_refused`, for the error that is reported
pub told_refused : (o : Options) (xs : List Tree) (b : Assembly) (limit : Option ℕ) (e reported : BuildError) → b ≡ begun_with o →
    (reverse_of o && is_any (captures_of o)) ≡ false → limit ≡ limit_of o →
    reported ≡ error_under limit e → FailsPatterns (captures_of o) b (room_for (is_shrunk o) xs + 4) xs e →
    ExceedsLimit b (bytes_needed (at_most (is_shrunk o)) o xs) e → RejectsTrees o xs reported
told_refused o xs b limit e reported begun captures same is r p =
    let P : BuildError → Type 0 = λ one. RejectsTrees o xs one in
    subst P (sym (is ∙ ap (λ (most : Option ℕ). error_under most e) same)) (trees_refused o xs b e begun captures r p)
